-- A task to which something was granted is in no queue.
use Rattle.std.proofs.Common.{◌≡◌, inl, inr, ℕ, suc, ◌+◌, ◌<◌, ◌≤◌, Bool, true, false, ◌&&◌, ◌==◌, Option, Some, None, List, [], ◌∷◌, ◌++◌, map, refl, ap, sym, ◌∙◌, subst, arith, nat_lt, nat_le, append_assoc, not, if◌then◌else◌}
use Rattle.std.proofs.lemmas.Bool.{eqb-true}
use Rattle.std.proofs.lemmas.Bool.Decides.{nat_tests}
use Rattle.exceptions.specs.Exceptions.{Label}
use Rattle.cancel_scopes.specs.Sight.{Tick, is_reached}
use Rattle.job_tree.specs.Tree.{Tree as Job, Steps}
use Rattle.job_tree.specs.declared.object.Ask.{Ask}
use Rattle.objects.specs.Whats.{What}
use Rattle.input_lines.specs.Lines.{Range}
use Rattle.job_meaning.specs.Log.{Act, opens, asks, gives_back, closes, same_label}
use Rattle.job_meaning.specs.Before.{act_before, left_before}
use Rattle.job_meaning.specs.Sharing.{Done, done_if, Asker, Given, Granted, granted_if, granted_before, find_given, Object, unopened, a_limiter, a_channel, by_moment, insert_by_moment, serve_acts}
use Rattle.job_meaning.specs.Walk.{Here}
use Rattle.job_meaning.specs.Rest as rest
use Rattle.job_meaning.specs.Rest.{Event, noted, signs, enters, acts, starts, Stopped, queued, inside}
use Rattle.job_meaning.proofs.Distinct.{same_label_equal}
use Rattle.job_meaning.proofs.ServedAlike.{sender_by}
use Rattle.turn_semantics.specs.Lists.{Each, IsAmong}
use Rattle.turn_semantics.specs.Midway.{label_among}
use Rattle.interleavings.specs.Interleaving.{Started}
use Rattle.interleavings.specs.Acts.{acts_made, asked_on, acts_pending, acts_of, acts_of_all, granted_so_far}
use Rattle.interleavings.proofs.GrantsKnown.{cut, cut_done, served_before}
use Rattle.run_refinement.specs.Sharing.{done_before, object_after, AsksBefore}
use Rattle.run_refinement.proofs.ActsKeep.{not_both}
use Rattle.run_refinement.proofs.Counts.{one_if, count, count_append, count_map, in_object, sender_passes, asker_in, askers_in, of_asker, of_given, acts_give}
use Rattle.run_refinement.proofs.DoneLists.{each_weaker, sorted_each, befores}
use Rattle.run_refinement.proofs.Grants.{granted_in}
use Rattle.run_refinement.proofs.RunFacts.{each_append}
use Rattle.run_refinement.proofs.OtherAskers.{act_with, done_with, object_with, IsSameAsker, sorted_with, objects_with}

-- ---- what is known before a moment

abbrev early : ℕ → Asker → Asker
early t a = record a { left = left_before t a.left }

early_same : (t : ℕ) → IsSameAsker t (early t)
early_same t = record { task = λ a. refl; at = λ a. refl; stays = λ v a lt. by_left v a.left lt }
  where
    by_left : (v : ℕ) (left : Tick) → v < t → not (is_reached (left_before t left) v) ≡ not (is_reached left v)
    by_left v None lt = refl
    by_left v (Some u) lt = by_order (nat_lt u t) refl
      where
        by_order : (b : Bool) → nat_lt u t ≡ b → not (is_reached (if b then Some u else None) v) ≡ not (is_reached (Some u) v)
        by_order true e = refl
        by_order false e = ap not (sym later)
          where
            later : is_reached (Some u) v ≡ false
            later = grind (arith, nat_tests)

cut_with : (t : ℕ) (ds : List Done) → cut t ds ≡ map (done_with (early t)) (done_before t ds)
cut_with t [] = refl
cut_with t (d ∷ ds) = by_order (nat_lt d.at t) refl (cut_with t ds)
  where
    of_act : (a : Act) → act_before t a ≡ act_with (early t) d a
    of_act (opens kind) = refl
    of_act (asks ask part left) = refl
    of_act gives_back = refl
    of_act closes = refl

    by_order : (b : Bool) → nat_lt d.at t ≡ b → cut t ds ≡ map (done_with (early t)) (done_before t ds) →
        cut t (d ∷ ds) ≡ map (done_with (early t)) (done_before t (d ∷ ds))
    by_order true e h =
        rw e (ap (λ (xs : List Done). cut_done t d ∷ xs) h ∙ ap (λ (a : Act). record d { act = a } ∷ map (done_with (early t)) (done_before t ds)) (of_act d.act))
    by_order false e h = rw e h

-- ---- counts

insert_count : (p : Asker → Bool) (d : Done) (ds : List Done) → count p (askers_in (insert_by_moment d ds)) ≡ count p (asker_in d d.act) + count p (askers_in ds)
insert_count p d [] = count_append p (asker_in d d.act) []
insert_count p d (e ∷ es) = by_order (nat_le d.at e.at) (insert_count p d es)
  where
    both : count p (asker_in d d.act ++ (asker_in e e.act ++ askers_in es)) ≡ count p (asker_in d d.act) + count p (asker_in e e.act ++ askers_in es)
    both = count_append p (asker_in d d.act) (asker_in e e.act ++ askers_in es)

    last : (zs : List Asker) → count p (asker_in e e.act ++ zs) ≡ count p (asker_in e e.act) + count p zs
    last zs = count_append p (asker_in e e.act) zs

    by_order : (b : Bool) → count p (askers_in (insert_by_moment d es)) ≡ count p (asker_in d d.act) + count p (askers_in es) →
        count p (askers_in (if b then d ∷ e ∷ es else e ∷ insert_by_moment d es)) ≡ count p (asker_in d d.act) + count p (asker_in e e.act ++ askers_in es)
    by_order true h = both
    by_order false h =
        let a = last (askers_in (insert_by_moment d es)) in
        let b = last (askers_in es) in
        omega (arith, h, a, b)

pub sorted_count : (p : Asker → Bool) (ds : List Done) → count p (askers_in (by_moment ds)) ≡ count p (askers_in ds)
sorted_count p [] = refl
sorted_count p (d ∷ ds) =
    let h = insert_count p d (by_moment ds) in
    let k = sorted_count p ds in
    let a = count_append p (asker_in d d.act) (askers_in ds) in
    omega (arith, h, k, a)

-- those before a moment are not more
cut_count : (p : Label → ℕ → Bool) (t : ℕ) (ds : List Done) → count (of_asker p) (askers_in (cut t ds)) ≤ count (of_asker p) (askers_in ds)
cut_count p t [] = omega arith
cut_count p t (d ∷ ds) = by_order (nat_lt d.at t) (cut_count p t ds)
  where
    same : (a : Act) → count (of_asker p) (asker_in d (act_before t a)) ≡ count (of_asker p) (asker_in d a)
    same (opens kind) = refl
    same (asks ask part left) = refl
    same gives_back = refl
    same closes = refl

    by_order : (b : Bool) → count (of_asker p) (askers_in (cut t ds)) ≤ count (of_asker p) (askers_in ds) →
        count (of_asker p) (askers_in (done_if b (cut_done t d) (cut t ds))) ≤ count (of_asker p) (asker_in d d.act ++ askers_in ds)
    by_order true h =
        let a = same d.act in
        let b = count_append (of_asker p) (asker_in d (act_before t d.act)) (askers_in (cut t ds)) in
        let c = count_append (of_asker p) (asker_in d d.act) (askers_in ds) in
        omega (arith, h, a, b, c)
    by_order false h =
        let c = count_append (of_asker p) (asker_in d d.act) (askers_in ds) in
        omega (arith, h, c)

-- other askers by task and moment are the same
with_count : (p : Label → ℕ → Bool) (t : ℕ) (o : Object) → in_object (of_asker p) (object_with (early t) o) ≡ in_object (of_asker p) o
with_count p t unopened = refl
with_count p t (a_limiter l) = count_map (early t) (of_asker p) l.waiting
with_count p t (a_channel c) =
    let a = count_map (sender_by {P = Range} (early t)) (sender_passes (of_asker p)) c.senders in
    let b = count_map (early t) (of_asker p) c.receivers in
    omega (arith, a, b)

-- who was given something is counted
pub given_count : (label : Label) (since : ℕ) (gs : List Given) (g : Granted) → find_given label since gs ≡ Some g →
    1 ≤ count (of_given (λ task at. same_label label task && (since == at))) gs
given_count label since [] g e = absurd (not_both refl e)
given_count label since (x ∷ gs) g e = by_test (same_label label x.task && (since == x.asked)) refl (given_count label since gs g)
  where
    by_test : (b : Bool) → (same_label label x.task && (since == x.asked)) ≡ b →
        (find_given label since gs ≡ Some g → 1 ≤ count (of_given (λ task at. same_label label task && (since == at))) gs) →
        1 ≤ count (of_given (λ task at. same_label label task && (since == at))) (x ∷ gs)
    by_test true i h = let a : one_if (same_label label x.task && (since == x.asked)) ≡ 1 = ap one_if i in omega (arith, a)
    by_test false i h =
        let k = h (sym (ap (λ (b : Bool). granted_if b x.granted (find_given label since gs)) i) ∙ e) in omega (arith, k)

-- ---- one task

abbrev pub asked_then : Label → ℕ → Label → ℕ → Bool
asked_then label since task at = same_label label task && (since == at)

made_count : (l task label : Label) (since : ℕ) (es : List Event) → AsksBefore since es → count (of_asker (asked_then label since)) (askers_in (acts_made l task es)) ≡ 0
made_count l task label since [] h = refl
made_count l task label since (acts m u (asks a part left) ∷ es) h = by_label (same_label l m) (made_count l task label since es h.1)
  where
    d : Done
    d = record { at = u; task = task; act = asks a part left }

    other : (b : Bool) → (since == u) ≡ b → (since == u) ≡ false
    other false e = e
    other true e = absurd (let f : since ≡ u = eqb-true since u e in let g : u < since = h.0 in omega (arith, f, g))

    none : (b : Bool) → one_if (b && (since == u)) ≡ 0
    none true = ap one_if (other (since == u) refl)
    none false = refl

    by_label : (b : Bool) → count (of_asker (asked_then label since)) (askers_in (acts_made l task es)) ≡ 0 →
        count (of_asker (asked_then label since)) (askers_in (done_if b d (acts_made l task es))) ≡ 0
    by_label true k = let a = none (same_label label task) in omega (arith, a, k)
    by_label false k = k
made_count l task label since (acts m u (opens kind) ∷ es) h = by_label (same_label l m) (made_count l task label since es h)
  where
    by_label : (b : Bool) → count (of_asker (asked_then label since)) (askers_in (acts_made l task es)) ≡ 0 →
        count (of_asker (asked_then label since)) (askers_in (done_if b (record { at = u; task = task; act = opens kind }) (acts_made l task es))) ≡ 0
    by_label true k = k
    by_label false k = k
made_count l task label since (acts m u gives_back ∷ es) h = by_label (same_label l m) (made_count l task label since es h)
  where
    by_label : (b : Bool) → count (of_asker (asked_then label since)) (askers_in (acts_made l task es)) ≡ 0 →
        count (of_asker (asked_then label since)) (askers_in (done_if b (record { at = u; task = task; act = gives_back }) (acts_made l task es))) ≡ 0
    by_label true k = k
    by_label false k = k
made_count l task label since (acts m u closes ∷ es) h = by_label (same_label l m) (made_count l task label since es h)
  where
    by_label : (b : Bool) → count (of_asker (asked_then label since)) (askers_in (acts_made l task es)) ≡ 0 →
        count (of_asker (asked_then label since)) (askers_in (done_if b (record { at = u; task = task; act = closes }) (acts_made l task es))) ≡ 0
    by_label true k = k
    by_label false k = k
made_count l task label since (noted u e ∷ es) h = made_count l task label since es h
made_count l task label since (signs m u ∷ es) h = made_count l task label since es h
made_count l task label since (enters m u d ∷ es) h = made_count l task label since es h
made_count l task label since (starts i m u ∷ es) h = made_count l task label since es h

pending_count : (l label n task : Label) (since : ℕ) (here : Here) (ask : Ask) →
    count (of_asker (asked_then label since)) (askers_in (asked_on l (Some n) task here ask since)) ≤ one_if (same_label l n)
pending_count l label n task since here ask = by_label (same_label l n)
  where
    at_most : (b : Bool) → one_if b + 0 ≤ 1
    at_most true = omega arith
    at_most false = omega arith

    by_label : (b : Bool) →
        count (of_asker (asked_then label since)) (askers_in (done_if b (record { at = since; task = task; act = asks ask here.part None }) [])) ≤ one_if b
    by_label true = at_most (same_label label task && (since == since))
    by_label false = omega arith

askers_append : (xs ys : List Done) → askers_in (xs ++ ys) ≡ askers_in xs ++ askers_in ys
askers_append [] ys = refl
askers_append (d ∷ xs) ys =
    ap (λ (xs : List Asker). asker_in d d.act ++ xs) (askers_append xs ys)
    ∙ sym (append_assoc (asker_in d d.act) (askers_in xs) (askers_in ys))

-- a task in a queue asked once in its moment
own_count : (l n : Label) (q : Started) (name : List ℕ) (ask : Ask) (since : ℕ) (body : Steps) → q.rest.stopped ≡ queued name ask since body →
    label_among true name q.places ≡ Some n → AsksBefore since q.made →
    count (of_asker (asked_then q.here.task since)) (askers_in (acts_of l q)) ≤ one_if (same_label l n)
own_count l n q name ask since body is label before =
    let a : count p (askers_in (acts_of l q)) ≡ count p (askers_in (acts_made l q.here.task q.made) ++ askers_in pending) =
    ap (count p) (askers_append (acts_made l q.here.task q.made) pending) in
    let b = count_append p (askers_in (acts_made l q.here.task q.made)) (askers_in pending) in
    let c : count p (askers_in (acts_made l q.here.task q.made)) ≡ 0 = made_count l q.here.task q.here.task since q.made before in
    let d : count p (askers_in pending) ≤ one_if (same_label l n) =
    subst (λ (ds : List Done). count p (askers_in ds) ≤ one_if (same_label l n)) (sym pending_is)
    (pending_count l q.here.task n q.here.task since (inside q.rest.frames q.here) ask) in
    omega (arith, a, b, c, d)
  where
    p : Asker → Bool
    p = of_asker (asked_then q.here.task since)

    pending : List Done
    pending = acts_pending l q.here q.rest.frames q.places q.rest.stopped

    pending_is : pending ≡ asked_on l (Some n) q.here.task (inside q.rest.frames q.here) ask since
    pending_is =
        ap (λ (s : Stopped). acts_pending l q.here q.rest.frames q.places s) is
        ∙ ap (λ (o : Option Label). asked_on l o q.here.task (inside q.rest.frames q.here) ask since) label

-- acts of a task have its label
pub acts_label : (l : Label) (q : Started) → Each (λ (d : Done). d.task ≡ q.here.task) (acts_of l q)
acts_label l q = each_append (λ (d : Done). d.task ≡ q.here.task) (acts_made l q.here.task q.made) (acts_pending l q.here q.rest.frames q.places q.rest.stopped) (of_made q.made) (of_stop q.rest.stopped)
  where
    each_if : (b : Bool) (d : Done) (ds : List Done) → d.task ≡ q.here.task → Each (λ (x : Done). x.task ≡ q.here.task) ds →
        Each (λ (x : Done). x.task ≡ q.here.task) (done_if b d ds)
    each_if true d ds e h = (e, h)
    each_if false d ds e h = h

    of_made : (es : List Event) → Each (λ (d : Done). d.task ≡ q.here.task) (acts_made l q.here.task es)
    of_made [] = tt
    of_made (acts m u a ∷ es) = each_if (same_label l m) (record { at = u; task = q.here.task; act = a }) (acts_made l q.here.task es) refl (of_made es)
    of_made (noted u e ∷ es) = of_made es
    of_made (signs m u ∷ es) = of_made es
    of_made (enters m u d ∷ es) = of_made es
    of_made (starts i m u ∷ es) = of_made es

    of_label : (o : Option Label) (ask : Ask) (since : ℕ) → Each (λ (d : Done). d.task ≡ q.here.task) (asked_on l o q.here.task (inside q.rest.frames q.here) ask since)
    of_label None ask since = tt
    of_label (Some n) ask since = each_if (same_label l n) _ [] refl tt

    of_stop : (s : Stopped) → Each (λ (d : Done). d.task ≡ q.here.task) (acts_pending l q.here q.rest.frames q.places s)
    of_stop (queued name ask since body) = of_label (label_among true name q.places) ask since
    of_stop rest.to_begin = tt
    of_stop (rest.asking kernel purpose) = tt
    of_stop (rest.asleep paced n since) = tt
    of_stop (rest.waiting_for event since) = tt
    of_stop (rest.giving_up since) = tt
    of_stop (rest.awaiting children ended exc) = tt
    of_stop (rest.at_end u e) = tt

other_count : (label : Label) (since : ℕ) (ds : List Done) → Each (λ (d : Done). same_label label d.task ≡ false) ds →
    count (of_asker (asked_then label since)) (askers_in ds) ≡ 0
other_count label since [] h = refl
other_count label since (d ∷ ds) h =
    let a = count_append (of_asker (asked_then label since)) (asker_in d d.act) (askers_in ds) in
    let b = of_act d.act in
    let c = other_count label since ds h.1 in
    omega (arith, a, b, c)
  where
    of_act : (a : Act) → count (of_asker (asked_then label since)) (asker_in d a) ≡ 0
    of_act (opens kind) = refl
    of_act (asks ask part left) = ap (λ (b : Bool). one_if (b && (since == d.at)) + 0) h.0
    of_act gives_back = refl
    of_act closes = refl

-- ---- all tasks

pub all_count : (l n : Label) (q : Started) (name : List ℕ) (ask : Ask) (since : ℕ) (body : Steps) → q.rest.stopped ≡ queued name ask since body →
    label_among true name q.places ≡ Some n → AsksBefore since q.made → (taken : List Started) →
    ((x : Started) → IsAmong x taken → x.here.task ≡ q.here.task → x ≡ q) →
    count (of_asker (asked_then q.here.task since)) (askers_in (acts_of_all l taken))
    ≤ (if same_label l n then count (λ (x : Started). same_label q.here.task x.here.task) taken else 0)
all_count l n q name ask since body is label before [] one = none (same_label l n)
  where
    none : (b : Bool) → 0 ≤ (if b then 0 else 0)
    none true = omega arith
    none false = omega arith
all_count l n q name ask since body is label before (x ∷ taken) one =
    by_tests (same_label l n) refl (same_label q.here.task x.here.task) refl (all_count l n q name ask since body is label before taken (λ y i. one y (inr i)))
  where
    p : Asker → Bool
    p = of_asker (asked_then q.here.task since)

    both : count p (askers_in (acts_of l x ++ acts_of_all l taken)) ≡ count p (askers_in (acts_of l x)) + count p (askers_in (acts_of_all l taken))
    both = ap (count p) (askers_append (acts_of l x) (acts_of_all l taken)) ∙ count_append p (askers_in (acts_of l x)) (askers_in (acts_of_all l taken))

    mine : same_label q.here.task x.here.task ≡ true → count p (askers_in (acts_of l x)) ≤ one_if (same_label l n)
    mine e =
        subst (λ (z : Started). count p (askers_in (acts_of l z)) ≤ one_if (same_label l n))
        (sym (one x (inl refl) (sym (same_label_equal q.here.task x.here.task e)))) (own_count l n q name ask since body is label before)

    theirs : same_label q.here.task x.here.task ≡ false → count p (askers_in (acts_of l x)) ≡ 0
    theirs e =
        other_count q.here.task since (acts_of l x)
        (each_weaker (λ (d : Done). d.task ≡ x.here.task) (λ (d : Done). same_label q.here.task d.task ≡ false) (acts_of l x)
        (λ d g. ap (same_label q.here.task) g ∙ e) (acts_label l x))

    by_tests : (b : Bool) → same_label l n ≡ b → (c : Bool) → same_label q.here.task x.here.task ≡ c →
        count p (askers_in (acts_of_all l taken)) ≤ (if same_label l n then count (λ (x : Started). same_label q.here.task x.here.task) taken else 0) →
        count p (askers_in (acts_of l x ++ acts_of_all l taken))
        ≤ (if same_label l n then one_if (same_label q.here.task x.here.task) + count (λ (x : Started). same_label q.here.task x.here.task) taken else 0)
    by_tests true e true g h =
        let a : count p (askers_in (acts_of l x)) ≤ one_if (same_label l n) = mine g in
        let b : one_if (same_label l n) ≡ 1 = ap one_if e in
        let c : one_if (same_label q.here.task x.here.task) ≡ 1 = ap one_if g in
        let d : count p (askers_in (acts_of_all l taken)) ≤ count (λ (x : Started). same_label q.here.task x.here.task) taken =
        subst (λ (z : Bool). count p (askers_in (acts_of_all l taken)) ≤ (if z then count (λ (x : Started). same_label q.here.task x.here.task) taken else 0)) e h in
        subst (λ (z : Bool). count p (askers_in (acts_of l x ++ acts_of_all l taken))
        ≤ (if z then one_if (same_label q.here.task x.here.task) + count (λ (x : Started). same_label q.here.task x.here.task) taken else 0)) (sym e)
        (omega (arith, both, a, b, c, d))
    by_tests true e false g h =
        let a : count p (askers_in (acts_of l x)) ≡ 0 = theirs g in
        let d : count p (askers_in (acts_of_all l taken)) ≤ count (λ (x : Started). same_label q.here.task x.here.task) taken =
        subst (λ (z : Bool). count p (askers_in (acts_of_all l taken)) ≤ (if z then count (λ (x : Started). same_label q.here.task x.here.task) taken else 0)) e h in
        subst (λ (z : Bool). count p (askers_in (acts_of l x ++ acts_of_all l taken))
        ≤ (if z then one_if (same_label q.here.task x.here.task) + count (λ (x : Started). same_label q.here.task x.here.task) taken else 0)) (sym e)
        (omega (arith, both, a, d))
    by_tests false e c g h =
        let a : count p (askers_in (acts_of l x)) ≤ 0 = by_label c g in
        let d : count p (askers_in (acts_of_all l taken)) ≤ 0 =
        subst (λ (z : Bool). count p (askers_in (acts_of_all l taken)) ≤ (if z then count (λ (x : Started). same_label q.here.task x.here.task) taken else 0)) e h in
        subst (λ (z : Bool). count p (askers_in (acts_of l x ++ acts_of_all l taken))
        ≤ (if z then one_if (same_label q.here.task x.here.task) + count (λ (x : Started). same_label q.here.task x.here.task) taken else 0)) (sym e)
        (omega (arith, both, a, d))
      where
        by_label : (c : Bool) → same_label q.here.task x.here.task ≡ c → count p (askers_in (acts_of l x)) ≤ 0
        by_label true g = let k = mine g in let b : one_if (same_label l n) ≡ 0 = ap one_if e in omega (arith, k, b)
        by_label false g = let k = theirs g in omega (arith, k)

-- a task to which something is granted by a moment is in no queue before it
pub none_queued : (job : Job) (t : ℕ) (l n : Label) (q : Started) (name : List ℕ) (ask : Ask) (since : ℕ) (body : Steps) (w : What) (taken : List Started) →
    q.rest.stopped ≡ queued name ask since body → label_among true name q.places ≡ Some n → AsksBefore since q.made →
    ((x : Started) → IsAmong x taken → x.here.task ≡ q.here.task → x ≡ q) → count (λ (x : Started). same_label q.here.task x.here.task) taken ≤ 1 →
    granted_before (suc t) (granted_so_far taken n q.here.task since) ≡ granted_in t (Some w) →
    in_object (of_asker (asked_then q.here.task since)) (object_after unopened (by_moment (done_before t (acts_of_all l taken)))) ≡ 0
none_queued job t l n q name ask since body w taken is label before one once granted =
    let a = acts_give (asked_then q.here.task since) unopened (by_moment (cut t (acts_of_all l taken))) in
    let b : count p (askers_in (by_moment (cut t (acts_of_all l taken)))) ≡ count p (askers_in (cut t (acts_of_all l taken))) =
    sorted_count p (cut t (acts_of_all l taken)) in
    let c : count p (askers_in (cut t (acts_of_all l taken))) ≤ count p (askers_in (acts_of_all l taken)) =
    cut_count (asked_then q.here.task since) t (acts_of_all l taken) in
    let d = all_count l n q name ask since body is label before taken one in
    let e : in_object p (object_after unopened (by_moment (cut t (acts_of_all l taken)))) ≡ in_object p m = same_count in
    by_label (same_label l n) refl a b c d e
  where
    p : Asker → Bool
    p = of_asker (asked_then q.here.task since)

    m : Object
    m = object_after unopened (by_moment (done_before t (acts_of_all l taken)))

    same_count : in_object p (object_after unopened (by_moment (cut t (acts_of_all l taken)))) ≡ in_object p m
    same_count =
        ap (λ (ds : List Done). in_object p (object_after unopened (by_moment ds))) (cut_with t (acts_of_all l taken))
        ∙ (ap (λ (ds : List Done). in_object p (object_after unopened ds)) (sorted_with (early t) (done_before t (acts_of_all l taken)))
        ∙ (ap (in_object p)
        (objects_with t (early t) (early_same t) unopened (by_moment (done_before t (acts_of_all l taken)))
        (sorted_each (λ (d : Done). d.at < t) (done_before t (acts_of_all l taken)) (befores t (acts_of_all l taken))))
        ∙ with_count (asked_then q.here.task since) t m))

    given : l ≡ n → 1 ≤ count (of_given (asked_then q.here.task since)) (serve_acts unopened (by_moment (cut t (acts_of_all l taken))))
    given same = by_found (find_given q.here.task since (serve_acts unopened (by_moment (cut t (acts_of_all l taken))))) refl
      where
        known : granted_before (suc t) (find_given q.here.task since (serve_acts unopened (by_moment (cut t (acts_of_all l taken))))) ≡ granted_in t (Some w)
        known =
            sym (served_before t job l q.here.task since (acts_of_all l taken))
            ∙ (ap (λ (x : Label). granted_before (suc t) (granted_so_far taken x q.here.task since)) same ∙ granted)

        by_found : (o : Option Granted) → find_given q.here.task since (serve_acts unopened (by_moment (cut t (acts_of_all l taken)))) ≡ o →
            1 ≤ count (of_given (asked_then q.here.task since)) (serve_acts unopened (by_moment (cut t (acts_of_all l taken))))
        by_found None e = absurd (not_both (ap (granted_before (suc t)) e) known)
        by_found (Some g) e = given_count q.here.task since (serve_acts unopened (by_moment (cut t (acts_of_all l taken)))) g e

    by_label : (b : Bool) → same_label l n ≡ b →
        in_object p (object_after unopened (by_moment (cut t (acts_of_all l taken))))
        + count (of_given (asked_then q.here.task since)) (serve_acts unopened (by_moment (cut t (acts_of_all l taken))))
        ≤ 0 + count p (askers_in (by_moment (cut t (acts_of_all l taken)))) →
        count p (askers_in (by_moment (cut t (acts_of_all l taken)))) ≡ count p (askers_in (cut t (acts_of_all l taken))) →
        count p (askers_in (cut t (acts_of_all l taken))) ≤ count p (askers_in (acts_of_all l taken)) →
        count p (askers_in (acts_of_all l taken)) ≤ (if same_label l n then count (λ (x : Started). same_label q.here.task x.here.task) taken else 0) →
        in_object p (object_after unopened (by_moment (cut t (acts_of_all l taken)))) ≡ in_object p m → in_object p m ≡ 0
    by_label true i a b c d e =
        let f : count p (askers_in (acts_of_all l taken)) ≤ count (λ (x : Started). same_label q.here.task x.here.task) taken =
        subst (λ (z : Bool). count p (askers_in (acts_of_all l taken)) ≤ (if z then count (λ (x : Started). same_label q.here.task x.here.task) taken else 0)) i d in
        let g = given (same_label_equal l n i) in
        omega (arith, a, b, c, e, f, g, once)
    by_label false i a b c d e =
        let f : count p (askers_in (acts_of_all l taken)) ≤ 0 =
        subst (λ (z : Bool). count p (askers_in (acts_of_all l taken)) ≤ (if z then count (λ (x : Started). same_label q.here.task x.here.task) taken else 0)) i d in
        omega (arith, a, b, c, e, f)

-- a task in a queue to which a limiter or channel grants something is in the queue of that one
pub granted_own : (l n : Label) (q : Started) (name : List ℕ) (ask : Ask) (since : ℕ) (body : Steps) (taken : List Started) (g : Granted) →
    q.rest.stopped ≡ queued name ask since body → label_among true name q.places ≡ Some n → AsksBefore since q.made →
    ((x : Started) → IsAmong x taken → x.here.task ≡ q.here.task → x ≡ q) → granted_so_far taken l q.here.task since ≡ Some g → l ≡ n
granted_own l n q name ask since body taken g is label before one found =
    let a = given_count q.here.task since (serve_acts unopened (by_moment (acts_of_all l taken))) g found in
    let b = acts_give (asked_then q.here.task since) unopened (by_moment (acts_of_all l taken)) in
    let c = sorted_count (of_asker (asked_then q.here.task since)) (acts_of_all l taken) in
    by_label (same_label l n) refl (all_count l n q name ask since body is label before taken one) (omega (arith, a, b, c))
  where
    asked : ℕ
    asked = count (of_asker (asked_then q.here.task since)) (askers_in (acts_of_all l taken))

    by_label : (b : Bool) → same_label l n ≡ b → asked ≤ (if same_label l n then count (λ (x : Started). same_label q.here.task x.here.task) taken else 0) →
        1 ≤ asked → l ≡ n
    by_label true e h some = same_label_equal l n e
    by_label false e h some =
        absurd (let none : asked ≤ 0 =
        subst (λ (z : Bool). asked ≤ (if z then count (λ (x : Started). same_label q.here.task x.here.task) taken else 0)) e h in omega (arith, none, some))
