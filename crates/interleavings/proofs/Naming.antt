-- No two tasks of a run have one serial number, each child has the label with which it was started, and the root has that of the job.
use Rattle.std.proofs.Common.{◌≡◌, ◌⊎◌, ℕ, suc, ◌+◌, ◌-◌, ◌<◌, ◌≤◌, Bool, true, false, ◌==◌, if◌then◌else◌, List, [], ◌∷◌, ◌++◌, refl, sym, ap, ◌∙◌, subst, inl, inr, arith}
use Rattle.std.proofs.lemmas.Bool.Decides.{nat_tests}
use Rattle.turn_semantics.specs.Lists.{Exists, IsAmong}
use Rattle.job_tree.specs.Tree.{Tree}
use Rattle.job_tree.specs.Names.{GivesNamesOnce}
use Rattle.job_tree.specs.Starting.{StartsInNurseries}
use Rattle.exceptions.specs.Exceptions.{Label}
use Rattle.job_meaning.specs.Log.{Table}
use Rattle.job_meaning.specs.Moments.{a_round_after}
use Rattle.job_meaning.specs.Meaning.{root_label}
use Rattle.job_meaning.specs.Rest.{Event, noted, signs, enters, acts, starts}
use Rattle.turn_semantics.specs.Made.{StartedChild, started_in}
use Rattle.turn_semantics.specs.Midway.{Tables, Begun}
use Rattle.turn_semantics.specs.Turned.{Starts}
use Rattle.interleavings.specs.Interleaving.{Started, StartsChild}
use Rattle.interleavings.specs.Going.{children_from, task_after_turn}
use Rattle.interleavings.specs.Runs.{Front, is_front, after_one, Reached, begun, turn, jump}
use Rattle.interleavings.specs.Laws.{IsSettledBy}
use Rattle.interleavings.proofs.Readings.{in_first, in_second, in_either}
use Rattle.interleavings.proofs.Picking.{SameTasks, front_same}
use Rattle.interleavings.proofs.Turning.{begun_made, old_child, later_child}
use Rattle.interleavings.proofs.Running.{runs_keep_invariant}
use Rattle.interleavings.proofs.Housing.{serials_below}

-- ---- serial numbers

-- how many tasks have a serial number
abbrev serial_count : ℕ → List Started → ℕ
serial_count n [] = 0
serial_count n (q ∷ qs) = (if q.serial == n then 1 else 0) + serial_count n qs

count_join : (n : ℕ) (xs ys : List Started) → serial_count n (xs ++ ys) ≡ serial_count n xs + serial_count n ys
count_join n [] ys = omega arith
count_join n (x ∷ xs) ys = omega (arith, count_join n xs ys)

count_front : (n : ℕ) {q : Started} {qs others : List Started} → Front q qs others →
    serial_count n qs ≡ (if q.serial == n then 1 else 0) + serial_count n others
count_front n (is_front q qs) = refl
count_front n (after_one q x qs others at) = omega (arith, count_front n at)

one_more : (b : Bool) (n : ℕ) → b ≡ true → 1 ≤ (if b then 1 else 0) + n
one_more true n e = omega arith
one_more false n e = cc

not_one : (b : Bool) (n : ℕ) → b ≡ false → n ≡ 0 → (if b then 1 else 0) + n ≡ 0
not_one true n e h = cc
not_one false n e h = omega arith

counted : (n : ℕ) (q : Started) (qs : List Started) → IsAmong q qs → q.serial ≡ n → 1 ≤ serial_count n qs
counted n q [] i e = absurd i
counted n q (x ∷ qs) (inl g) e = one_more (x.serial == n) (serial_count n qs) (same (sym (ap (λ (z : Started). z.serial) g) ∙ e))
  where
    same : x.serial ≡ n → (x.serial == n) ≡ true
    same h = grind (arith, nat_tests)
counted n q (x ∷ qs) (inr i) e = let more : 1 ≤ serial_count n qs = counted n q qs i e in omega arith

-- no task has a greater number than all
none_counted : (n : ℕ) (qs : List Started) → ((q : Started) → IsAmong q qs → q.serial < n) → serial_count n qs ≡ 0
none_counted n [] h = refl
none_counted n (q ∷ qs) h =
    not_one (q.serial == n) (serial_count n qs) (differs (h q (inl refl))) (none_counted n qs (λ x i. h x (inr i)))
  where
    differs : q.serial < n → (q.serial == n) ≡ false
    differs lt = grind (arith, nat_tests)

none_above : (n m : ℕ) (qs : List Started) → m ≤ n → ((q : Started) → IsAmong q qs → q.serial < m) → serial_count n qs ≡ 0
none_above n m qs le h = none_counted n qs (λ q i. less q (h q i))
  where
    less : (q : Started) → q.serial < m → q.serial < n
    less q lt = omega arith

-- new tasks have the next numbers, each once
new_low : (k : Tables) (t n m : ℕ) (bs : List Begun) → n < m → serial_count n (children_from k t m bs) ≡ 0
unfolding children_from
new_low k t n m [] lt = refl
new_low k t n m (b ∷ bs) lt =
    not_one (m == n) (serial_count n (children_from k t (suc m) bs)) (differs lt) (new_low k t n (suc m) bs (omega arith))
  where
    differs : n < m → (m == n) ≡ false
    differs less = grind (arith, nat_tests)

new_once : (k : Tables) (t n m : ℕ) (bs : List Begun) → serial_count n (children_from k t m bs) ≤ 1
unfolding children_from
new_once k t n m [] = omega arith
new_once k t n m (b ∷ bs) = by_test (m == n) refl (new_once k t n (suc m) bs)
  where
    by_test : (x : Bool) → (m == n) ≡ x → serial_count n (children_from k t (suc m) bs) ≤ 1 →
        (if x then 1 else 0) + serial_count n (children_from k t (suc m) bs) ≤ 1
    by_test false e h = omega arith
    by_test true e h =
        let low : serial_count n (children_from k t (suc m) bs) ≡ 0 = new_low k t n (suc m) bs (grind (arith, nat_tests)) in omega arith

new_above : (k : Tables) (t m : ℕ) (bs : List Begun) (x : Started) → IsAmong x (children_from k t m bs) → m ≤ x.serial
unfolding children_from
new_above k t m [] x i = absurd i
new_above k t m (b ∷ bs) x (inl e) = let a : x.serial ≡ m = ap (λ (z : Started). z.serial) e in omega arith
new_above k t m (b ∷ bs) x (inr i) = let a : suc m ≤ x.serial = new_above k t (suc m) bs x i in omega arith

-- so each number is that of one task at most
serials_once : (k : Tables) (job : Tree) (input : List ℕ) (f : Table) (t m : ℕ) (qs : List Started) → Reached k job input f t m qs → (n : ℕ) →
    serial_count n qs ≤ 1
serials_once k job input f t m _ (begun f') n = by_test (0 == n)
  where
    by_test : (b : Bool) → (if b then 1 else 0) + 0 ≤ 1
    by_test true = omega arith
    by_test false = omega arith
serials_once k job input f t m _ (turn g now p q qs others wake o s r at may goes stopped) n =
    by_order (split n p) (serials_once k job input g now.at p qs r n)
  where
    new : List Started
    new = children_from k (a_round_after q.here.clock now.at) p o.begun

    split : (a b : ℕ) → (a < b) ⊎ (b ≤ a)
    split a b = grind arith

    by_order : (n < p) ⊎ (p ≤ n) → serial_count n qs ≤ 1 → (if q.serial == n then 1 else 0) + serial_count n (new ++ others) ≤ 1
    by_order (inl lt) h =
        let a : serial_count n new ≡ 0 = new_low k (a_round_after q.here.clock now.at) n p o.begun lt in
        let b : serial_count n qs ≡ (if q.serial == n then 1 else 0) + serial_count n others = count_front n at in
        let c : serial_count n (new ++ others) ≡ serial_count n new + serial_count n others = count_join n new others in
        omega arith
    by_order (inr le) h =
        let a : serial_count n new ≤ 1 = new_once k (a_round_after q.here.clock now.at) n p o.begun in
        let b : serial_count n qs ≡ (if q.serial == n then 1 else 0) + serial_count n others = count_front n at in
        let c : serial_count n (new ++ others) ≡ serial_count n new + serial_count n others = count_join n new others in
        let d : serial_count n qs ≡ 0 = none_above n p qs le (λ x i. serials_below k job input g now.at p qs r x i) in
        omega arith
serials_once k job input f t m qs (jump g v u p qs' r le blocked) n = serials_once k job input g v p qs' r n

one_by_count : (n : ℕ) (qs : List Started) → serial_count n qs ≤ 1 → (x y : Started) → IsAmong x qs → IsAmong y qs → x.serial ≡ n → y.serial ≡ n →
    x ≡ y
one_by_count n [] h x y i j a b = absurd i
one_by_count n (z ∷ zs) h x y (inl e) (inl g) a b = e ∙ sym g
one_by_count n (z ∷ zs) h x y (inl e) (inr j) a b = absurd (twice (sym (ap (λ (v : Started). v.serial) e) ∙ a) (counted n y zs j b))
  where
    twice : z.serial ≡ n → 1 ≤ serial_count n zs → ⊥
    twice e more = let first : 1 ≤ (if z.serial == n then 1 else 0) + 0 = counted n z (z ∷ []) (inl refl) e in absurd (omega arith)
one_by_count n (z ∷ zs) h x y (inr i) (inl g) a b = absurd (twice (sym (ap (λ (v : Started). v.serial) g) ∙ b) (counted n x zs i a))
  where
    twice : z.serial ≡ n → 1 ≤ serial_count n zs → ⊥
    twice e more = let first : 1 ≤ (if z.serial == n then 1 else 0) + 0 = counted n z (z ∷ []) (inl refl) e in absurd (omega arith)
one_by_count n (z ∷ zs) h x y (inr i) (inr j) a b = one_by_count n zs (omega arith) x y i j a b

-- two tasks of a run with one serial number are the same
pub one_serial : (k : Tables) (job : Tree) (input : List ℕ) (f : Table) (t m : ℕ) (qs : List Started) → Reached k job input f t m qs →
    (x y : Started) → IsAmong x qs → IsAmong y qs → x.serial ≡ y.serial → x ≡ y
one_serial k job input f t m qs r x y i j e = one_by_count y.serial qs (serials_once k job input f t m qs r y.serial) x y i j e refl

-- ---- labels

-- the root has the label of the job
pub root_named : (k : Tables) (job : Tree) (input : List ℕ) (f : Table) (t m : ℕ) (qs : List Started) → Reached k job input f t m qs →
    (x : Started) → IsAmong x qs → x.serial ≡ 0 → x.here.task ≡ root_label job.name
root_named k job input f t m _ (begun f') x (inl e) z = ap (λ (y : Started). y.here.task) e
root_named k job input f t m _ (begun f') x (inr i) z = absurd i
root_named k job input f t m _ (turn g now p q qs others wake o s r at may goes stopped) x (inl e) z =
    ap (λ (y : Started). y.here.task) e
    ∙ root_named k job input g now.at p qs r q ((front_same q qs others at).back q (inl refl)) (sym (ap (λ (y : Started). y.serial) e) ∙ z)
root_named k job input f t m _ (turn g now p q qs others wake o s r at may goes stopped) x (inr i) z =
    by_place (λ j. root_named k job input g now.at p qs r x j z)
    (in_either x (children_from k (a_round_after q.here.clock now.at) p o.begun) others i)
  where
    first : q.serial < p
    first = serials_below k job input g now.at p qs r q ((front_same q qs others at).back q (inl refl))

    by_place : (IsAmong x qs → x.here.task ≡ root_label job.name) →
        IsAmong x (children_from k (a_round_after q.here.clock now.at) p o.begun) ⊎ IsAmong x others → x.here.task ≡ root_label job.name
    by_place before (inl j) =
        let a : p ≤ x.serial = new_above k (a_round_after q.here.clock now.at) p o.begun x j in
        let b : q.serial < p = first in
        absurd (omega arith)
    by_place before (inr j) = before ((front_same q qs others at).back x (inr j))
root_named k job input f t m qs (jump g v u p qs' r le blocked) x i z = root_named k job input g v p qs' r x i z

-- a child with that number is started with this label among events
abbrev pub StartsNamed : ℕ → Label → List Event → Type 0
StartsNamed i l es = Exists (λ (s : StartedChild). (i ≡ s.number) × (l ≡ s.label)) (started_in es)

-- the task that is that child, which has the label
pub record Named (qs : List Started) (q : Started) (i : ℕ) (l : Label) : Type 0 where
  pub kid : Started
  pub among : IsAmong kid qs
  pub serial : kid.serial ≡ q.child i
  pub task : kid.here.task ≡ l

-- a child that is started with a label is started
started_named : (i : ℕ) (l : Label) (es : List Event) → StartsNamed i l es → StartsChild i es
started_named i l [] h = absurd h
started_named i l (noted u e ∷ es) h = started_named i l es h
started_named i l (signs x u ∷ es) h = started_named i l es h
started_named i l (enters x u d ∷ es) h = started_named i l es h
started_named i l (acts x u a ∷ es) h = started_named i l es h
started_named i l (starts j x u ∷ es) (inl e) = inl e.0
started_named i l (starts j x u ∷ es) (inr h) = inr (started_named i l es h)

named_either : (i : ℕ) (l : Label) (xs ys : List Event) → StartsNamed i l (xs ++ ys) → StartsNamed i l xs ⊎ StartsNamed i l ys
named_either i l [] ys h = inr h
named_either i l (noted u e ∷ xs) ys h = named_either i l xs ys h
named_either i l (signs x u ∷ xs) ys h = named_either i l xs ys h
named_either i l (enters x u d ∷ xs) ys h = named_either i l xs ys h
named_either i l (acts x u a ∷ xs) ys h = named_either i l xs ys h
named_either i l (starts j x u ∷ xs) ys (inl e) = inl (inl e)
named_either i l (starts j x u ∷ xs) ys (inr h) = after (named_either i l xs ys h)
  where
    after : StartsNamed i l xs ⊎ StartsNamed i l ys → (((i ≡ j) × (l ≡ x)) ⊎ StartsNamed i l xs) ⊎ StartsNamed i l ys
    after (inl k) = inl (inr k)
    after (inr k) = inr k

-- a new child has the label of its start
record NewNamed (k : Tables) (t n m : ℕ) (bs : List Begun) (i : ℕ) (l : Label) : Type 0 where
  kid : Started
  among : IsAmong kid (children_from k t m bs)
  serial : kid.serial ≡ m + (i - n)
  above : n ≤ i
  task : kid.here.task ≡ l

new_named : (k : Tables) (t n m : ℕ) (es : List Event) (bs : List Begun) → Starts n es bs → (i : ℕ) (l : Label) → StartsNamed i l es →
    NewNamed k t n m bs i l
unfolding children_from
new_named k t n m [] bs a i l h = absurd h
new_named k t n m (noted u e ∷ es) bs a i l h =
    let r : NewNamed k t n m bs i l = new_named k t n m es bs a i l h in
    record { kid = r.kid; among = r.among; serial = r.serial; above = r.above; task = r.task }
new_named k t n m (signs x u ∷ es) bs a i l h =
    let r : NewNamed k t n m bs i l = new_named k t n m es bs a i l h in
    record { kid = r.kid; among = r.among; serial = r.serial; above = r.above; task = r.task }
new_named k t n m (enters x u d ∷ es) bs a i l h =
    let r : NewNamed k t n m bs i l = new_named k t n m es bs a i l h in
    record { kid = r.kid; among = r.among; serial = r.serial; above = r.above; task = r.task }
new_named k t n m (acts x u done ∷ es) bs a i l h =
    let r : NewNamed k t n m bs i l = new_named k t n m es bs a i l h in
    record { kid = r.kid; among = r.among; serial = r.serial; above = r.above; task = r.task }
new_named k t n m (starts j x u ∷ es) [] a i l h = absurd a
new_named k t n m (starts j x u ∷ es) (b ∷ bs) a i l (inl e) =
    let z : j ≡ n = a.0 in
    let y : i ≡ j = e.0 in
    record { kid = _; among = inl refl; serial = omega arith; above = omega arith; task = sym (e.1 ∙ a.2) }
new_named k t n m (starts j x u ∷ es) (b ∷ bs) a i l (inr h) =
    let r : NewNamed k t (suc n) (suc m) bs i l = new_named k t (suc n) (suc m) es bs a.3 i l h in
    let y : r.kid.serial ≡ suc m + (i - suc n) = r.serial in
    let z : suc n ≤ i = r.above in
    record { kid = r.kid; among = inr r.among; serial = omega arith; above = omega arith; task = r.task }

-- a task of the run before a turn is one of those after it, with the same serial number and label
record After (n : ℕ) (l : Label) (rs : List Started) : Type 0 where
  kid : Started
  among : IsAmong kid rs
  serial : kid.serial ≡ n
  task : kid.here.task ≡ l

-- Each child of a run that was started with a label has it.
pub kids_named : (k : Tables) (job : Tree) (input : List ℕ) → GivesNamesOnce job → StartsInNurseries job → IsSettledBy k job input →
    (f : Table) (t m : ℕ) (qs : List Started) → Reached k job input f t m qs → (x : Started) → IsAmong x qs → (i : ℕ) (l : Label) →
    StartsNamed i l x.made → Named qs x i l
kids_named k job input names inside settled f t m _ (begun f') x (inl e) i l h = absurd (subst (λ (z : Started). StartsNamed i l z.made) e h)
kids_named k job input names inside settled f t m _ (begun f') x (inr j) i l h = absurd j
kids_named k job input names inside settled f t m _ (turn g now p q qs others wake o s r at may goes stopped) x place i l h =
    by_place place h (λ y j n w z. kids_named k job input names inside settled g now.at p qs r y j n w z)
  where
    same : SameTasks qs (q ∷ others)
    same = front_same q qs others at

    new : List Started
    new = children_from k (a_round_after q.here.clock now.at) p o.begun

    q' : Started
    q' = task_after_turn k now p q o s

    Before : Type 0
    Before = (y : Started) → IsAmong y qs → (n : ℕ) (w : Label) → StartsNamed n w y.made → Named qs y n w

    -- a child of a task that was there before
    moved : (y : Started) (n : ℕ) (w : Label) → Named qs y n w → After (y.child n) w ((q' ∷ new) ++ others)
    moved y n w c = by_task c.kid (same.forth c.kid c.among) c.serial c.task
      where
        by_task : (z : Started) → IsAmong z (q ∷ others) → z.serial ≡ y.child n → z.here.task ≡ w → After (y.child n) w ((q' ∷ new) ++ others)
        by_task z (inl e) a b =
            record {
              kid = q';
              among = inl refl;
              serial = sym (ap (λ (v : Started). v.serial) e) ∙ a;
              task = sym (ap (λ (v : Started). v.here.task) e) ∙ b;
            }
        by_task z (inr j) a b = record { kid = z; among = in_second z (q' ∷ new) others j; serial = a; task = b }

    counted_before : (n : ℕ) → StartsChild n q.made → n < q.count
    counted_before n z =
        (runs_keep_invariant k job input settled names inside g now.at p qs r).0.numbered q (same.back q (inl refl)) n z

    of_turned : Before → StartsNamed i l (q.made ++ o.made) → Named ((q' ∷ new) ++ others) q' i l
    of_turned before z = by_time (named_either i l q.made o.made z)
      where
        by_time : StartsNamed i l q.made ⊎ StartsNamed i l o.made → Named ((q' ∷ new) ++ others) q' i l
        by_time (inl y) =
            let c : After (q.child i) l ((q' ∷ new) ++ others) = moved q i l (before q (same.back q (inl refl)) i l y) in
            record {
              kid = c.kid;
              among = c.among;
              serial = c.serial ∙ sym (old_child q.count q.child p i (counted_before i (started_named i l q.made y)));
              task = c.task;
            }
        by_time (inr y) =
            let c : NewNamed k (a_round_after q.here.clock now.at) q.count p o.begun i l =
            new_named k (a_round_after q.here.clock now.at) q.count p o.made o.begun goes.starts i l y in
            record {
              kid = c.kid;
              among = inr (in_first c.kid new others c.among);
              serial = c.serial ∙ sym (later_child q.count q.child p i c.above);
              task = c.task;
            }

    of_other : Before → IsAmong x new ⊎ IsAmong x others → StartsNamed i l x.made → Named ((q' ∷ new) ++ others) x i l
    of_other before (inl j) z =
        absurd (subst (λ (es : List Event). StartsNamed i l es) (begun_made k (a_round_after q.here.clock now.at) p o.begun x j) z)
    of_other before (inr j) z =
        let c : After (x.child i) l ((q' ∷ new) ++ others) = moved x i l (before x (same.back x (inr j)) i l z) in
        record { kid = c.kid; among = c.among; serial = c.serial; task = c.task }

    by_place : IsAmong x ((q' ∷ new) ++ others) → StartsNamed i l x.made → Before → Named ((q' ∷ new) ++ others) x i l
    by_place (inl e) z before =
        subst (λ (y : Started). Named ((q' ∷ new) ++ others) y i l) (sym e)
        (of_turned before (subst (λ (y : Started). StartsNamed i l y.made) e z))
    by_place (inr j) z before = of_other before (in_either x new others j) z
kids_named k job input names inside settled f t m qs (jump g v u p qs' r le blocked) x j i l h =
    kids_named k job input names inside settled g v p qs' r x j i l h
