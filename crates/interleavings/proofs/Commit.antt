-- What a turn moves from what a task has left to what it made and to its children: sums of both stay the same.
use Rattle.std.proofs.Common.{◌≡◌, ℕ, suc, ◌+◌, ◌<◌, ◌≤◌, min, Bool, true, false, ◌==◌, if◌then◌else◌, Some, List, [], ◌∷◌, ◌++◌, length, refl, sym, ap, ◌∙◌, subst, inl, inr, arith}
use Rattle.std.proofs.lemmas.Bool.Decides.{nat_tests}
use Rattle.turn_semantics.specs.Lists.{IsAmong}
use Rattle.exceptions.specs.Exceptions.{Label}
use Rattle.cancel_scopes.specs.Sight.{Tick}
use Rattle.job_meaning.specs.Log.{Log, nil, entry, sign, entered, act, task, followed_by, Result, same_label, tick_if, least_sign, times_entered, Table}
use Rattle.job_meaning.specs.Moments.{a_round_after, Now, only_at}
use Rattle.job_meaning.specs.Before.{upto}
use Rattle.job_meaning.specs.Rest.{Event, noted, signs, enters, acts, starts, ChildOutcomes, fill, Stopped, rest_comes_to, rest_at_start, inside}
use Rattle.job_meaning.proofs.Clips.{upto_most, upto_earlier}
use Rattle.job_meaning.proofs.Finish.{followed_assoc, fill_append, finish_begin}
use Rattle.turn_semantics.specs.Midway.{Tables, by_tables, stack_at, Begun, Move, now_after, no_outcomes, begun_comes_to}
use Rattle.turn_semantics.specs.Wakes.{Wake, WakesBy}
use Rattle.turn_semantics.specs.Turned.{AgreesOn, AgreesIn, AreOutcomes, Starts, made_sign, TurnsOver}
use Rattle.interleavings.specs.Interleaving.{Started, Tells, Fits, times_made, all_least, all_times, EnteredIn}
use Rattle.interleavings.specs.Going.{outcomes_with, children_from, task_after_turn}
use Rattle.interleavings.proofs.Readings.{first_join, times_join, least_join, left_join}
use Rattle.interleavings.proofs.Contract.{NumberedFrom, numbers_of, keeps_to}

same_number : (a b : ℕ) → a ≡ b → (a == b) ≡ true
same_number a b h = grind (arith, nat_tests)

less_number : (a b : ℕ) → a < b → (a == b) ≡ false
less_number a b h = grind (arith, nat_tests)

more_number : (a b : ℕ) → b < a → (a == b) ≡ false
more_number a b h = grind (arith, nat_tests)

-- ---- what is recorded of the children

-- of earlier children the same is recorded
pub outcome_of_old : (k : Tables) (t : ℕ) (outcomes : ChildOutcomes) (n : ℕ) (bs : List Begun) → NumberedFrom n bs → (i : ℕ) → i < n →
    outcomes_with k t outcomes bs i ≡ outcomes i
unfolding outcomes_with
outcome_of_old k t outcomes n [] p i h = refl
outcome_of_old k t outcomes n (b ∷ bs) p i h =
    let z : b.number ≡ n = p.0 in
    ap (λ (c : Bool). if c then begun_comes_to k t b else outcomes_with k t outcomes bs i) (less_number i b.number (omega arith))
    ∙ outcome_of_old k t outcomes (suc n) bs p.1 i (omega arith)

-- of the first of new children its own
pub outcome_of_first : (k : Tables) (t : ℕ) (outcomes : ChildOutcomes) (b : Begun) (bs : List Begun) (i : ℕ) → i ≡ b.number →
    outcomes_with k t outcomes (b ∷ bs) i ≡ begun_comes_to k t b
unfolding outcomes_with
outcome_of_first k t outcomes b bs i h = ap (λ (c : Bool). if c then begun_comes_to k t b else outcomes_with k t outcomes bs i) (same_number i b.number h)

-- and of those after the first what is recorded of them
pub outcome_of_later : (k : Tables) (t : ℕ) (outcomes : ChildOutcomes) (b : Begun) (bs : List Begun) (i : ℕ) → b.number < i →
    outcomes_with k t outcomes (b ∷ bs) i ≡ outcomes_with k t outcomes bs i
unfolding outcomes_with
outcome_of_later k t outcomes b bs i h = ap (λ (c : Bool). if c then begun_comes_to k t b else outcomes_with k t outcomes bs i) (more_number i b.number h)

outcomes_of_begun : (k : Tables) (t : ℕ) (e d : ChildOutcomes) (n : ℕ) (bs : List Begun) → NumberedFrom n bs →
    ((i : ℕ) → n ≤ i → i < n + length bs → d i ≡ outcomes_with k t e bs i) → AreOutcomes t k d bs
outcomes_of_begun k t e d n [] p h = tt
outcomes_of_begun k t e d n (b ∷ bs) p h =
    let z : b.number ≡ n = p.0 in (
      h b.number (omega arith) (omega arith) ∙ outcome_of_first k t e b bs b.number refl,
      outcomes_of_begun k t e d (suc n) bs p.1 (λ i x y. h i (omega arith) (omega arith) ∙ outcome_of_later k t e b bs i (omega arith)),
    )

-- records of outcomes that say the same of all children give the same log
fill_agree : (d e : ChildOutcomes) (n : ℕ) (es : List Event) (bs : List Begun) → Starts n es bs →
    ((i : ℕ) → i < n + length bs → d i ≡ e i) → fill d es ≡ fill e es
fill_agree d e n [] bs p h = refl
fill_agree d e n (noted t x ∷ es) bs p h = ap (λ (z : Log). entry t x z) (fill_agree d e n es bs p h)
fill_agree d e n (signs m t ∷ es) bs p h = ap (λ (z : Log). sign m t z) (fill_agree d e n es bs p h)
fill_agree d e n (enters m t c ∷ es) bs p h = ap (λ (z : Log). entered m t c z) (fill_agree d e n es bs p h)
fill_agree d e n (acts label moment done ∷ es) bs p h = ap (λ (z : Log). act label moment done z) (fill_agree d e n es bs p h)
fill_agree d e n (starts i m t ∷ es) [] p h = absurd p
fill_agree d e n (starts i m t ∷ es) (b ∷ bs) p h =
    let x : i ≡ n = p.0 in
    let z : d i ≡ e i = h i (omega arith) in
    λ j. task m t (z j).end (z j).exc (z j).log (fill_agree d e (suc n) es bs p.3 (λ o g. h o (omega arith)) j)

-- a log that is in front of two is in front of one
pub followed_cancel : (a b c : Log) → followed_by a b ≡ followed_by a c → b ≡ c
followed_cancel nil b c h = h
followed_cancel (entry t e rest) b c h = followed_cancel rest b c (cc)
followed_cancel (sign m t rest) b c h = followed_cancel rest b c (cc)
followed_cancel (entered m t d rest) b c h = followed_cancel rest b c (cc)
followed_cancel (act label moment done rest) b c h = followed_cancel rest b c (cc)
followed_cancel (task m s u e own rest) b c h = followed_cancel rest b c (cc)

-- ---- readings of what was made, with the new children

module _ (k : Tables) (t : ℕ) (outcomes : ChildOutcomes) where
  fill_least : (c : ℕ) (l : Label) (n m : ℕ) (es : List Event) (bs : List Begun) → Starts n es bs → AreOutcomes t k outcomes bs →
      upto c (least_sign l (fill outcomes es)) ≡ min (upto c (made_sign l es)) (all_least c l (children_from k t m bs))
  unfolding all_least children_from
  fill_least c l n m [] [] p q = omega arith
  fill_least c l n m [] (b ∷ bs) p q = absurd p
  fill_least c l n m (noted u x ∷ es) bs p q = fill_least c l n m es bs p q
  fill_least c l n m (signs h u ∷ es) bs p q =
      let s : Tick = tick_if (same_label l h) u in
      omega (arith, upto_earlier c s (least_sign l (fill outcomes es)), upto_earlier c s (made_sign l es), fill_least c l n m es bs p q)
  fill_least c l n m (enters h u d ∷ es) bs p q = fill_least c l n m es bs p q
  fill_least c l n m (acts label moment done ∷ es) bs p q = fill_least c l n m es bs p q
  fill_least c l n m (starts i h u ∷ es) [] p q = absurd p
  fill_least c l n m (starts i h u ∷ es) (b ∷ bs) p q =
      let ih : upto c (least_sign l (fill outcomes es)) ≡ min (upto c (made_sign l es)) (all_least c l (children_from k t (suc m) bs)) =
      fill_least c l (suc n) (suc m) es bs p.3 q.1 in
      let z : upto c (least_sign l (outcomes i).log) ≡ upto c (least_sign l (begun_comes_to k t b).log) =
      ap (λ (r : Result). upto c (least_sign l r.log)) (ap outcomes (p.0 ∙ sym p.1) ∙ q.0) in
      let y : upto c (least_sign l (begun_comes_to k t b).log) ≤ c = upto_most c (least_sign l (begun_comes_to k t b).log) in
      omega (arith, upto_earlier c (least_sign l (outcomes i).log) (least_sign l (fill outcomes es)))

  fill_times : (l : Label) (n m : ℕ) (es : List Event) (bs : List Begun) → Starts n es bs → AreOutcomes t k outcomes bs →
      times_entered l (fill outcomes es) ≡ times_made l es + all_times l (children_from k t m bs)
  unfolding times_made all_times children_from
  fill_times l n m [] [] p q = omega arith
  fill_times l n m [] (b ∷ bs) p q = absurd p
  fill_times l n m (noted u x ∷ es) bs p q = fill_times l n m es bs p q
  fill_times l n m (signs h u ∷ es) bs p q = fill_times l n m es bs p q
  fill_times l n m (enters h u d ∷ es) bs p q = omega (arith, fill_times l n m es bs p q)
  fill_times l n m (acts label moment done ∷ es) bs p q = fill_times l n m es bs p q
  fill_times l n m (starts i h u ∷ es) [] p q = absurd p
  fill_times l n m (starts i h u ∷ es) (b ∷ bs) p q =
      let ih : times_entered l (fill outcomes es) ≡ times_made l es + all_times l (children_from k t (suc m) bs) =
      fill_times l (suc n) (suc m) es bs p.3 q.1 in
      let z : times_entered l (outcomes i).log ≡ times_entered l (begun_comes_to k t b).log =
      ap (λ (r : Result). times_entered l r.log) (ap outcomes (p.0 ∙ sym p.1) ∙ q.0) in
      omega arith

  -- what a child enters, the events of its starter enter
  pub fill_entered : (n m : ℕ) (es : List Event) (bs : List Begun) → Starts n es bs → AreOutcomes t k outcomes bs →
      (x : Started) → IsAmong x (children_from k t m bs) → (l : Label) (d : Tick) → EnteredIn l d x.left → EnteredIn l d (fill outcomes es)
  unfolding children_from
  fill_entered n m [] [] p q x i l d h = absurd i
  fill_entered n m [] (b ∷ bs) p q x i l d h = absurd p
  fill_entered n m (noted u y ∷ es) bs p q x i l d h = fill_entered n m es bs p q x i l d h
  fill_entered n m (signs y u ∷ es) bs p q x i l d h = fill_entered n m es bs p q x i l d h
  fill_entered n m (enters y u c ∷ es) bs p q x i l d h = inr (fill_entered n m es bs p q x i l d h)
  fill_entered n m (acts label moment done ∷ es) bs p q x i l d h = fill_entered n m es bs p q x i l d h
  fill_entered n m (starts j y u ∷ es) [] p q x i l d h = absurd p
  fill_entered n m (starts j y u ∷ es) (b ∷ bs) p q x (inl e) l d h =
      let same : x.left ≡ (outcomes j).log = ap (λ (z : Started). z.left) e
      ∙ ap (λ (r : Result). r.log) (sym (ap outcomes (p.0 ∙ sym p.1) ∙ q.0)) in
      inl (subst (λ (a : Log). EnteredIn l d a) same h)
  fill_entered n m (starts j y u ∷ es) (b ∷ bs) p q x (inr i) l d h = inr (fill_entered (suc n) (suc m) es bs p.3 q.1 x i l d h)

-- ---- the task that had its turn

module _ (k : Tables) (f : Table) (now : Now) (m : ℕ) (wake : Wake) (q : Started) (o : Move) (s : Stopped)
    (w : TurnsOver q.stop now q.here f wake q.rest q.places q.count o) (stopped : o.stopped ≡ Some s) (fit : Fits k q)
    (near : AgreesOn now.at k.cancelled_from f q.places) (deadlines : AgreesIn now.at k.cancelled_from q.left)
    (come : (outcomes : ChildOutcomes) → Tells q outcomes → WakesBy k outcomes (inside q.rest.frames q.here) q.stop now wake q.rest.stopped q.places) where
  -- the moment in which the new children begin
  abbrev next : ℕ
  next = a_round_after q.here.clock now.at

  abbrev left_before : ChildOutcomes → Result
  left_before outcomes = rest_comes_to (by_tables k) outcomes q.rest q.here (stack_at k.cancelled_from q.places) q.stop

  abbrev left_after : ChildOutcomes → Result
  left_after outcomes =
      rest_comes_to (by_tables k) outcomes (record { stopped = s; frames = o.frames }) q.here (stack_at k.cancelled_from o.places)
      (now_after q.here.clock now o.made)

  numbers : NumberedFrom q.count o.begun
  numbers = numbers_of q.count o.made o.begun w.starts

  tells_before : (outcomes : ChildOutcomes) → Tells (task_after_turn k now m q o s) outcomes → Tells q outcomes
  tells_before outcomes h = λ i x. h i (omega arith) ∙ outcome_of_old k next q.outcomes q.count o.begun numbers i x

  -- a record of outcomes that fits the task after the turn contains for its new children the results of
  -- following the table
  pub tells_begun : (outcomes : ChildOutcomes) → Tells (task_after_turn k now m q o s) outcomes → AreOutcomes next k outcomes o.begun
  tells_begun outcomes h = outcomes_of_begun k next q.outcomes outcomes q.count o.begun numbers (λ i x y. h i y)

  -- and its own record fits it
  pub tells_itself : Tells (task_after_turn k now m q o s) (task_after_turn k now m q o s).outcomes
  tells_itself = λ i h. refl

  turn_keeps : (outcomes : ChildOutcomes) → Tells (task_after_turn k now m q o s) outcomes →
      left_before outcomes ≡ record (left_after outcomes) { log = followed_by (fill outcomes o.made) (left_after outcomes).log }
  turn_keeps outcomes h =
      keeps_to now f wake q o s w stopped k outcomes near
      (subst (λ (a : Log). AgreesIn now.at k.cancelled_from a) (sym (fit.lefts outcomes (tells_before outcomes h))) deadlines)
      (tells_begun outcomes h) (come outcomes (tells_before outcomes h))

  -- what was left before is what was made and what is left after
  pub left_is : (outcomes : ChildOutcomes) → Tells (task_after_turn k now m q o s) outcomes → q.left ≡ followed_by (fill outcomes o.made) (left_after outcomes).log
  left_is outcomes h = sym (fit.lefts outcomes (tells_before outcomes h)) ∙ ap (λ (r : Result). r.log) (turn_keeps outcomes h)

  made_more : (outcomes : ChildOutcomes) → followed_by (fill outcomes (q.made ++ o.made)) (left_after outcomes).log
      ≡ followed_by (fill outcomes q.made) (followed_by (fill outcomes o.made) (left_after outcomes).log)
  made_more outcomes =
      ap (λ (a : Log). followed_by a (left_after outcomes).log) (fill_append outcomes q.made o.made)
      ∙ followed_assoc (fill outcomes q.made) (fill outcomes o.made) (left_after outcomes).log

  -- the task still has the same whole result
  pub fits_turned : Fits k (task_after_turn k now m q o s)
  fits_turned = record {
    comes = λ outcomes h.
        ap (λ (a : Log). record (left_after outcomes) { log = a }) (made_more outcomes)
        ∙ (ap (λ (r : Result). record r { log = followed_by (fill outcomes q.made) r.log }) (sym (turn_keeps outcomes h))
        ∙ fit.comes outcomes (tells_before outcomes h));
    lefts = λ outcomes h.
        let d : ChildOutcomes = (task_after_turn k now m q o s).outcomes in
        followed_cancel (fill outcomes o.made) (left_after outcomes).log (left_after d).log
        (sym (left_is outcomes h) ∙ (left_is d tells_itself
        ∙ ap (λ (a : Log). followed_by a (left_after d).log) (fill_agree d outcomes q.count o.made o.begun w.starts (λ i x. sym (h i x)))));
  }

  -- the first signs are the same, with the new children
  pub least_turned : (c : ℕ) (l : Label) → all_least c l (task_after_turn k now m q o s ∷ children_from k next m o.begun)
      ≡ min (upto c (made_sign l q.made)) (upto c (least_sign l q.left))
  unfolding all_least
  least_turned c l =
      let d : ChildOutcomes = (task_after_turn k now m q o s).outcomes in
      let x : upto c (least_sign l q.left) ≡ min (upto c (least_sign l (fill d o.made))) (upto c (least_sign l (left_after d).log)) =
      ap (λ (a : Log). upto c (least_sign l a)) (left_is d tells_itself) ∙ least_join c l (fill d o.made) (left_after d).log in
      let y : upto c (least_sign l (fill d o.made)) ≡ min (upto c (made_sign l o.made)) (all_least c l (children_from k next m o.begun)) =
      fill_least k next d c l q.count m o.made o.begun w.starts (tells_begun d tells_itself) in
      let v : upto c (made_sign l (q.made ++ o.made)) ≡ min (upto c (made_sign l q.made)) (upto c (made_sign l o.made)) =
      first_join c l q.made o.made in
      omega arith

  -- and so is how often a label is entered
  pub times_turned : (l : Label) → all_times l (task_after_turn k now m q o s ∷ children_from k next m o.begun)
      ≡ times_made l q.made + times_entered l q.left
  unfolding all_times
  times_turned l =
      let d : ChildOutcomes = (task_after_turn k now m q o s).outcomes in
      let x : times_entered l q.left ≡ times_entered l (fill d o.made) + times_entered l (left_after d).log =
      ap (λ (a : Log). times_entered l a) (left_is d tells_itself) ∙ left_join l (fill d o.made) (left_after d).log in
      let y : times_entered l (fill d o.made) ≡ times_made l o.made + all_times l (children_from k next m o.begun) =
      fill_times k next d l q.count m o.made o.begun w.starts (tells_begun d tells_itself) in
      let v : times_made l (q.made ++ o.made) ≡ times_made l q.made + times_made l o.made = times_join l q.made o.made in
      omega arith

-- the result of a child before its first turn is that of following the table, whatever is recorded of children
pub fits_begun : (k : Tables) (t m : ℕ) (bs : List Begun) (q : Started) → IsAmong q (children_from k t m bs) → Fits k q
unfolding children_from
fits_begun k t m [] q i = absurd i
fits_begun k t m (b ∷ bs) q (inl e) = subst (λ (x : Started). Fits k x) (sym e) (fits_first b)
  where
    open_child : (b : Begun) (outcomes : ChildOutcomes) → rest_comes_to (by_tables k) outcomes (rest_at_start b.body) b.here
        (stack_at k.cancelled_from b.places) (only_at t)
        ≡ begun_comes_to k t b
    open_child b outcomes = finish_begin (by_tables k) outcomes b.body b.here (stack_at k.cancelled_from b.places) (only_at t)
        ∙ sym (finish_begin (by_tables k) no_outcomes b.body b.here (stack_at k.cancelled_from b.places) (only_at t))

    fits_first : (b : Begun) → Fits k (record {
      serial = m;
      here = b.here;
      places = b.places;
      stop = only_at t;
      rest = rest_at_start b.body;
      made = [];
      count = 0;
      child = (λ i. 0);
      outcomes = no_outcomes;
      final_result = begun_comes_to k t b;
      left = (begun_comes_to k t b).log;
    })
    fits_first b = record { comes = λ outcomes h. open_child b outcomes; lefts = λ outcomes h. ap (λ (r : Result). r.log) (open_child b outcomes) }
fits_begun k t m (b ∷ bs) q (inr i) = fits_begun k t (suc m) bs q i
