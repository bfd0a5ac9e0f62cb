-- In the order of records each task of a run occurs, no two have the same label, and their paths from the root rise.
use Rattle.std.proofs.Common.{◌≡◌, ◌≢◌, ◌⊎◌, inl, inr, ℕ, zero, suc, ◌+◌, ◌<◌, ◌≤◌, Bool, true, false, ◌==◌, List, [], ◌∷◌, ◌++◌, length, refl, ap, sym, ◌∙◌, subst, arith, if◌then◌else◌}
use Rattle.std.proofs.lemmas.Bool.{eqb-true, eq-eqb}
use Rattle.exceptions.specs.Exceptions.{Label}
use Rattle.job_tree.specs.Tree.{Tree as Job}
use Rattle.job_tree.specs.Names.{GivesNamesOnce}
use Rattle.job_tree.specs.Starting.{StartsInNurseries}
use Rattle.job_meaning.specs.Log.{Log, nil, entry, sign, entered, act, task, followed_by, Result, Table, same_label, times_given}
use Rattle.job_meaning.specs.Moments.{a_round_after}
use Rattle.job_meaning.specs.Meaning.{root_label}
use Rattle.job_meaning.specs.Follow.{follow}
use Rattle.job_meaning.specs.Rest.{Event, noted, signs, enters, acts, starts, fill, rest_comes_to}
use Rattle.job_meaning.proofs.Distinct.{same_label_itself}
use Rattle.job_meaning.proofs.Once.{labels_once}
use Rattle.turn_semantics.specs.Lists.{Each, IsAmong}
use Rattle.turn_semantics.specs.Midway.{Tables, by_tables, stack_at, Begun}
use Rattle.interleavings.specs.Interleaving.{Started, StartsChild, Kid, RunInvariant}
use Rattle.interleavings.specs.Acts.{InOrder, all_taken, next_taken}
use Rattle.interleavings.specs.Going.{root_result, task_after_turn, children_from, child_from}
use Rattle.interleavings.specs.Laws.{IsSettledBy}
use Rattle.interleavings.specs.Rows.{children_made}
use Rattle.interleavings.specs.Runs.{Reached, begun, turn, jump}
use Rattle.interleavings.proofs.Agreement.{outcomes_tell}
use Rattle.interleavings.proofs.Housing.{serials_below}
use Rattle.interleavings.proofs.Naming.{one_serial, root_named, StartsNamed, Named, kids_named}
use Rattle.interleavings.proofs.Picking.{SameTasks, front_same}
use Rattle.interleavings.proofs.Readings.{in_first, in_second, in_either}
use Rattle.interleavings.proofs.Running.{runs_keep_invariant}
use Rattle.interleavings.proofs.Turning.{begun_made}
use Rattle.run_refinement.specs.Turn.{serials_from}
use Rattle.run_refinement.proofs.Children.{made_join, made_before, made_now}
use Rattle.run_refinement.proofs.Counts.{one_if, count}
use Rattle.run_refinement.proofs.RunFacts.{each_append}

-- ---- no two tasks have the same label

given_followed : (l : Label) (a b : Log) → times_given l (followed_by a b) ≡ times_given l a + times_given l b
given_followed l nil b = omega arith
given_followed l (entry t e rest) b = given_followed l rest b
given_followed l (sign m t rest) b = given_followed l rest b
given_followed l (entered m t d rest) b = let h = given_followed l rest b in omega (arith, h)
given_followed l (act m t a rest) b = given_followed l rest b
given_followed l (task m s u e own rest) b = let h = given_followed l rest b in omega (arith, h)

abbrev given_once : Label → Label → ℕ
given_once l n = if same_label l n then 1 else 0

module _ (k : Tables) (f : Table) (whole : Result) (qs : List Started) (o : RunInvariant k f whole qs)
    (one : (x y : Started) → IsAmong x qs → IsAmong y qs → x.serial ≡ y.serial → x ≡ y)
    (named : (x : Started) → IsAmong x qs → (i : ℕ) (n : Label) → StartsNamed i n x.made → Named qs x i n) (l : Label) where
  abbrev has_label : Started → Bool
  has_label x = same_label l x.here.task

  abbrev one_of_label : Label → ℕ
  one_of_label n = if same_label l n then 1 else 0

  -- how often a label is given by tasks with all that they start, themselves included
  abbrev given_by : List Started → ℕ
  given_by [] = 0
  given_by (x ∷ ts) = one_of_label x.here.task + times_given l x.final_result.log + given_by ts

  abbrev serials : List Started → List ℕ
  serials [] = []
  serials (q ∷ ts) = q.serial ∷ serials ts

  abbrev AllIn : List Started → Type 0
  AllIn [] = Unit {0}
  AllIn (q ∷ ts) = IsAmong q qs × AllIn ts

  all_in_append : (ts us : List Started) → AllIn ts → AllIn us → AllIn (ts ++ us)
  all_in_append [] us p r = r
  all_in_append (q ∷ ts) us p r = (p.0, all_in_append ts us p.1 r)

  serials_append : (ts us : List Started) → serials (ts ++ us) ≡ serials ts ++ serials us
  serials_append [] us = refl
  serials_append (q ∷ ts) us = ap (λ (x : List ℕ). q.serial ∷ x) (serials_append ts us)

  given_append : (ts us : List Started) → given_by (ts ++ us) ≡ given_by ts + given_by us
  given_append [] us = omega arith
  given_append (q ∷ ts) us = let h = given_append ts us in omega (arith, h)

  final_given : (q : Started) → IsAmong q qs → times_given l (fill q.outcomes q.made) ≤ times_given l q.final_result.log
  final_given q i =
      let left : Log = (rest_comes_to (by_tables k) q.outcomes q.rest q.here (stack_at k.cancelled_from q.places) q.stop).log in
      let e : times_given l q.final_result.log ≡ times_given l (followed_by (fill q.outcomes q.made) left) =
      sym (ap (λ (r : Result). times_given l r.log) ((o.fits q i).comes q.outcomes (outcomes_tell q))) in
      let h = given_followed l (fill q.outcomes q.made) left in
      omega (arith, e, h)

  record Children (q : Started) (es : List Event) : Type 0 where
    tasks : List Started
    among : AllIn tasks
    numbers : serials tasks ≡ children_made q.child es
    given : given_by tasks ≤ times_given l (fill q.outcomes es)

  children_of : (q : Started) → IsAmong q qs → (es : List Event) → ((i : ℕ) → StartsChild i es → i < q.count) →
      ((i : ℕ) (n : Label) → StartsNamed i n es → Named qs q i n) → Children q es
  children_of q j [] h s = record { tasks = []; among = tt; numbers = refl; given = omega arith }
  children_of q j (noted u e ∷ es) h s =
      let r : Children q es = children_of q j es h s in record { tasks = r.tasks; among = r.among; numbers = r.numbers; given = r.given }
  children_of q j (signs n u ∷ es) h s =
      let r : Children q es = children_of q j es h s in record { tasks = r.tasks; among = r.among; numbers = r.numbers; given = r.given }
  children_of q j (enters n u d ∷ es) h s =
      let r : Children q es = children_of q j es h s in
      record { tasks = r.tasks; among = r.among; numbers = r.numbers; given = (let g : given_by r.tasks ≤ times_given l (fill q.outcomes es) = r.given in omega (arith, g)) }
  children_of q j (acts n u a ∷ es) h s =
      let r : Children q es = children_of q j es h s in record { tasks = r.tasks; among = r.among; numbers = r.numbers; given = r.given }
  children_of q j (starts i n u ∷ es) h s =
      let r : Children q es = children_of q j es (λ x m. h x (inr m)) (λ x y m. s x y (inr m)) in
      let c : Kid qs q i = o.kids q j i (h i (inl refl)) in
      let d : Named qs q i n = s i n (inl (refl, refl)) in
      let same : d.kid ≡ c.kid = one d.kid c.kid d.among c.among (d.serial ∙ sym c.serial) in
      let label : c.kid.here.task ≡ n = sym (ap (λ (x : Started). x.here.task) same) ∙ d.task in
      record {
        tasks = c.kid ∷ r.tasks;
        among = (c.among, r.among);
        numbers = λ v. c.serial v ∷ r.numbers v;
        given =
            (let g : given_by r.tasks ≤ times_given l (fill q.outcomes es) = r.given in
            let a : one_of_label c.kid.here.task ≡ one_of_label n = ap one_of_label label in
            let b : times_given l c.kid.final_result.log ≡ times_given l (q.outcomes i).log = ap (λ (x : Result). times_given l x.log) c.same in
            omega (arith, g, a, b));
      }

  -- of those that are taken as many have a label as it is given
  taken_given : {stack : List ℕ} {taken : List Started} → InOrder qs stack taken → (ts : List Started) → AllIn ts → stack ≡ serials ts →
      count has_label taken ≤ given_by ts
  taken_given all_taken [] p e = omega arith
  taken_given all_taken (q ∷ ts) p e = absurd (cc)
  taken_given (next_taken q stack taken i d) [] p e = absurd (cc)
  taken_given (next_taken q stack taken i d) (x ∷ ts) p e =
      let c : Children q q.made = children_of q i q.made (o.numbered q i) (named q i) in
      let first : q.serial ≡ x.serial = cc in
      let rest : stack ≡ serials ts = cc in
      let same : q ≡ x = one q x i p.0 first in
      let more : children_made q.child q.made ++ stack ≡ serials (c.tasks ++ ts) =
      ap (λ (y : List ℕ). y ++ stack) (sym c.numbers) ∙ (ap (λ (y : List ℕ). serials c.tasks ++ y) rest ∙ sym (serials_append c.tasks ts)) in
      let inner : count has_label taken ≤ given_by (c.tasks ++ ts) = taken_given d (c.tasks ++ ts) (all_in_append c.tasks ts c.among p.1) more in
      let both : given_by (c.tasks ++ ts) ≡ given_by c.tasks + given_by ts = given_append c.tasks ts in
      let kids : given_by c.tasks ≤ times_given l (fill q.outcomes q.made) = c.given in
      let all : times_given l (fill q.outcomes q.made) ≤ times_given l q.final_result.log = final_given q i in
      let as_label : one_if (same_label l q.here.task) ≡ one_of_label q.here.task = by_label (same_label l q.here.task) in
      let a : one_of_label q.here.task ≡ one_of_label x.here.task = ap (λ (y : Started). one_of_label y.here.task) same in
      let b : times_given l q.final_result.log ≡ times_given l x.final_result.log = ap (λ (y : Started). times_given l y.final_result.log) same in
      omega (arith, inner, both, kids, all, as_label, a, b)
    where
      by_label : (b : Bool) → one_if b ≡ (if b then 1 else 0)
      by_label true = refl
      by_label false = refl

-- ---- a run

-- rising numbers below another one
abbrev pub Rises : ℕ → List ℕ → Type 0
Rises m [] = Unit {0}
Rises m (x ∷ xs) = (x < m) × Each (λ y. x < y) xs × Rises m xs

rises_below : (m n : ℕ) (xs : List ℕ) → m ≤ n → Rises m xs → Rises n xs
rises_below m n [] le h = tt
rises_below m n (x ∷ xs) le h = (let e = h.0 in omega (arith, e, le), h.1, rises_below m n xs le h.2)

each_from : (x m n : ℕ) → x < m → Each (λ y. x < y) (serials_from m n)
each_from x m zero lt = tt
each_from x m (suc n) lt = (lt, each_from x (suc m) n (omega (arith, lt)))

rises_from : (m n : ℕ) → Rises (m + n) (serials_from m n)
rises_from m zero = tt
rises_from m (suc n) =
    let e : suc m + n ≡ m + suc n = omega arith in
    (omega arith, each_from m (suc m) n (omega arith), subst (λ (v : ℕ). Rises v (serials_from (suc m) n)) e (rises_from (suc m) n))

rises_append : (m n : ℕ) (xs : List ℕ) → Rises m xs → Rises (m + n) (xs ++ serials_from m n)
rises_append m n [] h = rises_from m n
rises_append m n (x ∷ xs) h =
    (let e = h.0 in omega (arith, e), each_append (λ y. x < y) xs (serials_from m n) h.1 (each_from x m n h.0), rises_append m n xs h.2)

-- the task that started another one
pub record BornOf (qs : List Started) (serial : ℕ) : Type 0 where
  pub parent : Started
  pub among : IsAmong parent qs
  pub earlier : parent.serial < serial
  pub born : IsAmong serial (children_made parent.child parent.made)

-- each task is the root, or a child of another one; and its children have rising serial numbers
pub record IsBorn (qs : List Started) (m : ℕ) (q : Started) : Type 0 where
  pub by : (q.serial ≡ 0) ⊎ BornOf qs q.serial
  pub rises : Rises m (children_made q.child q.made)

among_from : (m n i : ℕ) → i < n → IsAmong (m + i) (serials_from m n)
among_from m zero i lt = absurd (omega (arith, lt))
among_from m (suc n) zero lt = inl (omega arith)
among_from m (suc n) (suc i) lt =
    let e : suc m + i ≡ m + suc i = omega arith in
    inr (subst (λ (v : ℕ). IsAmong v (serials_from (suc m) n)) e (among_from (suc m) n i (omega (arith, lt))))

begun_index : (k : Tables) (t m : ℕ) (bs : List Begun) (x : Started) → IsAmong x (children_from k t m bs) → (i : ℕ) × (i < length bs) × (m + i ≡ x.serial)
unfolding children_from
begun_index k t m [] x i = absurd i
begun_index k t m (b ∷ bs) x (inl e) = (0, omega arith, (let f : x.serial ≡ m = ap (λ (z : Started). z.serial) e in omega (arith, f)))
begun_index k t m (b ∷ bs) x (inr i) =
    let h = begun_index k t (suc m) bs x i in (suc h.0, (let e = h.1 in omega (arith, e)), (let e = h.2 in omega (arith, e)))

pub all_born : (k : Tables) (job : Job) (input : List ℕ) → IsSettledBy k job input → GivesNamesOnce job → StartsInNurseries job → (f : Table) (t m : ℕ)
    (qs : List Started) → Reached k job input f t m qs → (x : Started) → IsAmong x qs → IsBorn qs m x
all_born k job input settled names starting _ _ _ _ (begun f) x (inl e) =
    record {
      by = inl (ap (λ (z : Started). z.serial) e);
      rises = subst (λ (z : Started). Rises 1 (children_made z.child z.made)) (sym e) tt;
    }
all_born k job input settled names starting _ _ _ _ (begun f) x (inr i) = absurd i
all_born k job input settled names starting _ _ _ _ (jump f t u m qs r le blocked) x i = all_born k job input settled names starting f t m qs r x i
all_born k job input settled names starting _ _ _ _ (turn f now m q qs others wake o s r at may goes stops) x i =
    by_place x i (all_born k job input settled names starting f now.at m qs r)
  where
    same : SameTasks qs (q ∷ others)
    same = front_same q qs others at

    there : IsAmong q qs
    there = same.back q (inl refl)

    q' : Started
    q' = task_after_turn k now m q o s

    new : List Started
    new = children_from k (a_round_after q.here.clock now.at) m o.begun

    after : List Started
    after = (q' ∷ new) ++ others

    numbered : (i : ℕ) → StartsChild i q.made → i < q.count
    numbered = (runs_keep_invariant k job input settled names starting f now.at m qs r).0.numbered q there

    children : children_made q'.child q'.made ≡ children_made q.child q.made ++ serials_from m (length o.begun)
    children =
        made_join (child_from q.count q.child m) q.made o.made
        ∙ (ap (λ (ns : List ℕ). ns ++ children_made (child_from q.count q.child m) o.made) (made_before q.count m q.child q.made numbered)
        ∙ ap (λ (ns : List ℕ). children_made q.child q.made ++ ns)
        (made_now q.count m 0 q.count m q.child o.made o.begun (omega arith) (omega arith) goes.starts))

    -- a parent before the turn is one after it
    still : (serial : ℕ) → BornOf qs serial → BornOf after serial
    still serial h = by_parent (same.forth h.parent h.among)
      where
        by_parent : IsAmong h.parent (q ∷ others) → BornOf after serial
        by_parent (inl e) =
            record {
              parent = q';
              among = inl refl;
              earlier = subst (λ (n : ℕ). n < serial) (ap (λ (z : Started). z.serial) e) h.earlier;
              born =
                  subst (IsAmong serial) (sym children)
                  (in_first serial (children_made q.child q.made) (serials_from m (length o.begun))
                  (subst (λ (z : Started). IsAmong serial (children_made z.child z.made)) e h.born));
            }
        by_parent (inr j) =
            record { parent = h.parent; among = in_second h.parent (q' ∷ new) others j; earlier = h.earlier; born = h.born }

    still_by : (serial : ℕ) → (serial ≡ 0) ⊎ BornOf qs serial → (serial ≡ 0) ⊎ BornOf after serial
    still_by serial (inl e) = inl e
    still_by serial (inr h) = inr (still serial h)

    by_place : (x : Started) → IsAmong x after → ((y : Started) → IsAmong y qs → IsBorn qs m y) → IsBorn after (m + length o.begun) x
    by_place x (inl e) all =
        subst (λ (z : Started). IsBorn after (m + length o.begun) z) (sym e)
        (record {
          by = still_by q.serial (all q there).by;
          rises = subst (Rises (m + length o.begun)) (sym children) (rises_append m (length o.begun) (children_made q.child q.made) (all q there).rises);
        })
    by_place x (inr i) all = by_part (in_either x new others i)
      where
        by_part : IsAmong x new ⊎ IsAmong x others → IsBorn after (m + length o.begun) x
        by_part (inl j) =
            let h = begun_index k (a_round_after q.here.clock now.at) m o.begun x j in
            let low : q.serial < m = serials_below k job input f now.at m qs r q there in
            record {
              by = inr (record {
                parent = q';
                among = inl refl;
                earlier = (let e = h.2 in omega (arith, e, low));
                born =
                    subst (IsAmong x.serial) (sym children)
                    (in_second x.serial (children_made q.child q.made) (serials_from m (length o.begun))
                    (subst (λ (n : ℕ). IsAmong n (serials_from m (length o.begun))) h.2 (among_from m (length o.begun) h.0 h.1)));
              });
              rises =
                  subst (λ (es : List Event). Rises (m + length o.begun) (children_made x.child es))
                  (sym (begun_made k (a_round_after q.here.clock now.at) m o.begun x j)) tt;
            }
        by_part (inr j) =
            let h = all x (same.back x (inr j)) in
            record {
              by = still_by x.serial h.by;
              rises = rises_below m (m + length o.begun) (children_made x.child x.made) (omega arith) h.rises;
            }

-- ---- each task is taken

-- one of the tasks that are taken has this serial number
abbrev pub IsTaken : ℕ → List Started → Type 0
IsTaken n taken = (x : Started) × IsAmong x taken × (x.serial ≡ n)

taken_stack : (qs : List Started) (stack : List ℕ) (taken : List Started) → InOrder qs stack taken → (n : ℕ) → IsAmong n stack → IsTaken n taken
taken_stack qs _ _ all_taken n i = absurd i
taken_stack qs _ _ (next_taken q stack taken j order) n (inl e) = (q, inl refl, sym e)
taken_stack qs _ _ (next_taken q stack taken j order) n (inr i) =
    let h = taken_stack qs (children_made q.child q.made ++ stack) taken order n (in_second n (children_made q.child q.made) stack i) in
    (h.0, inr h.1, h.2)

taken_child : (qs : List Started) (stack : List ℕ) (taken : List Started) → InOrder qs stack taken → (y : Started) → IsAmong y taken → (n : ℕ) →
    IsAmong n (children_made y.child y.made) → IsTaken n taken
taken_child qs _ _ all_taken y i n j = absurd i
taken_child qs _ _ (next_taken q stack taken a order) y (inl e) n j =
    let h = taken_stack qs (children_made q.child q.made ++ stack) taken order n
    (in_first n (children_made q.child q.made) stack (subst (λ (z : Started). IsAmong n (children_made z.child z.made)) e j)) in
    (h.0, inr h.1, h.2)
taken_child qs _ _ (next_taken q stack taken a order) y (inr i) n j =
    let h = taken_child qs (children_made q.child q.made ++ stack) taken order y i n j in (h.0, inr h.1, h.2)

-- the tasks that an order takes are those of the run
pub taken_in : (qs : List Started) (stack : List ℕ) (taken : List Started) → InOrder qs stack taken → (q : Started) → IsAmong q taken → IsAmong q qs
taken_in qs _ _ all_taken x i = absurd i
taken_in qs _ _ (next_taken q stack taken j order) x (inl e) = subst (λ (z : Started). IsAmong z qs) (sym e) j
taken_in qs _ _ (next_taken q stack taken j order) x (inr i) = taken_in qs _ taken order x i

two_counted : {A : Type 0} (p : A → Bool) (n : A → ℕ) (xs : List A) (x y : A) → IsAmong x xs → IsAmong y xs → p x ≡ true → p y ≡ true → n x ≢ n y →
    2 ≤ count p xs
two_counted p n [] x y i j a b differ = absurd i
two_counted {A} p n (z ∷ xs) x y (inl e) (inl g) a b differ = absurd (differ (ap n e ∙ sym (ap n g)))
two_counted {A} p n (z ∷ xs) x y (inl e) (inr j) a b differ =
    let h : 1 ≤ count p xs = one_counted p xs y j b in
    let g : one_if (p z) ≡ 1 = ap one_if (ap p (sym e) ∙ a) in
    omega (arith, h, g)
  where
    one_counted : (q : A → Bool) (ys : List A) (w : A) → IsAmong w ys → q w ≡ true → 1 ≤ count q ys
    one_counted q [] w i c = absurd i
    one_counted q (v ∷ ys) w (inl d) c = let g : one_if (q v) ≡ 1 = ap one_if (ap q (sym d) ∙ c) in omega (arith, g)
    one_counted q (v ∷ ys) w (inr i) c = let h = one_counted q ys w i c in omega (arith, h)
two_counted {A} p n (z ∷ xs) x y (inr i) (inl g) a b differ =
    let h : 1 ≤ count p xs = one_counted p xs x i a in
    let e : one_if (p z) ≡ 1 = ap one_if (ap p (sym g) ∙ b) in
    omega (arith, h, e)
  where
    one_counted : (q : A → Bool) (ys : List A) (w : A) → IsAmong w ys → q w ≡ true → 1 ≤ count q ys
    one_counted q [] w i c = absurd i
    one_counted q (v ∷ ys) w (inl d) c = let g : one_if (q v) ≡ 1 = ap one_if (ap q (sym d) ∙ c) in omega (arith, g)
    one_counted q (v ∷ ys) w (inr i) c = let h = one_counted q ys w i c in omega (arith, h)
two_counted p n (z ∷ xs) x y (inr i) (inr j) a b differ = let h = two_counted p n xs x y i j a b differ in omega (arith, h)

module _ (k : Tables) (job : Job) (input : List ℕ) (f : Table) (t m : ℕ) (qs : List Started) (settled : IsSettledBy k job input)
    (names : GivesNamesOnce job) (starting : StartsInNurseries job) (r : Reached k job input f t m qs) (taken : List Started)
    (order : InOrder qs (0 ∷ []) taken)
  where
    born : (x : Started) → IsAmong x qs → IsBorn qs m x
    born = all_born k job input settled names starting f t m qs r

    interleaving : RunInvariant k f (root_result k job input) qs
    interleaving = (runs_keep_invariant k job input settled names starting f t m qs r).0

    taken_below : (n : ℕ) (x : Started) → IsAmong x qs → x.serial < n → IsTaken x.serial taken
    taken_below zero x i lt = absurd (omega (arith, lt))
    taken_below (suc n) x i lt = by_birth (born x i).by (taken_below n)
      where
        by_birth : (x.serial ≡ 0) ⊎ BornOf qs x.serial → ((y : Started) → IsAmong y qs → y.serial < n → IsTaken y.serial taken) → IsTaken x.serial taken
        by_birth (inl e) lower = taken_stack qs (0 ∷ []) taken order x.serial (inl e)
        by_birth (inr b) lower =
            let h = lower b.parent b.among (let e = b.earlier in omega (arith, e, lt)) in
            let same : h.0 ≡ b.parent =
            one_serial k job input f t m qs r h.0 b.parent (taken_in qs (0 ∷ []) taken order h.0 h.1) b.among h.2 in
            taken_child qs (0 ∷ []) taken order h.0 h.1 x.serial
            (subst (λ (z : Started). IsAmong x.serial (children_made z.child z.made)) (sym same) b.born)

    -- each task of the run is taken
    pub all_are_taken : (x : Started) → IsAmong x qs → IsAmong x taken
    all_are_taken x i =
        let h = taken_below (suc x.serial) x i (omega arith) in
        let same : h.0 ≡ x = one_serial k job input f t m qs r h.0 x (taken_in qs (0 ∷ []) taken order h.0 h.1) i h.2 in
        subst (λ (z : Started). IsAmong z taken) same h.1

    -- a label is that of one of them at most
    pub one_has_label : (l : Label) → count (λ (x : Started). same_label l x.here.task) taken ≤ 1
    unfolding follow
    one_has_label l =
        let root : Started = interleaving.root.root in
        let a : count (λ (x : Started). same_label l x.here.task) taken
        ≤ given_once l root.here.task + times_given l root.final_result.log + 0 =
        taken_given k f (root_result k job input) qs interleaving (one_serial k job input f t m qs r)
        (kids_named k job input names starting settled f t m qs r) l order (root ∷ []) (interleaving.root.among, tt)
        (ap (λ (n : ℕ). n ∷ []) (sym interleaving.root.first)) in
        let label : given_once l root.here.task ≡ given_once l (root_label job.name) =
        ap (given_once l) (root_named k job input f t m qs r root interleaving.root.among interleaving.root.first) in
        let whole : times_given l root.final_result.log ≡ times_given l (follow k.cancelled_from k.granted job input).log =
        ap (λ (z : Result). times_given l z.log) interleaving.root.comes in
        let once : given_once l (root_label job.name) + (times_given l (follow k.cancelled_from k.granted job input).log + 0) ≤ 1 =
        labels_once (by_tables k) job input names l in
        omega (arith, a, label, whole, once)

    -- so tasks with the same label are the same
    pub labels_differ : (x y : Started) → IsAmong x qs → IsAmong y qs → x.here.task ≡ y.here.task → x.serial ≡ y.serial
    labels_differ x y i j e = by_test (x.serial == y.serial) refl
      where
        by_test : (b : Bool) → (x.serial == y.serial) ≡ b → x.serial ≡ y.serial
        by_test true g = eqb-true x.serial y.serial g
        by_test false g =
            let differ : x.serial ≢ y.serial = λ z. absurd (let w : true ≡ false = sym (eq-eqb x.serial y.serial z) ∙ g in cc) in
            let two : 2 ≤ count (λ (z : Started). same_label x.here.task z.here.task) taken =
            two_counted (λ (z : Started). same_label x.here.task z.here.task) (λ z. z.serial) taken x y (all_are_taken x i) (all_are_taken y j)
            (same_label_itself x.here.task) (ap (same_label x.here.task) (sym e) ∙ same_label_itself x.here.task) differ in
            let one : count (λ (z : Started). same_label x.here.task z.here.task) taken ≤ 1 = one_has_label x.here.task in
            absurd (omega (arith, two, one))
