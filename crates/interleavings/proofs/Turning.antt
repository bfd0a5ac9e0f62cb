-- After a turn a run still agrees with the table: this follows from what is promised of a turn
-- alone.
use Rattle.std.proofs.Common.{◌≡◌, ℕ, suc, ◌+◌, ◌-◌, ◌<◌, ◌≤◌, min, Bool, true, if◌then◌else◌, Some, List, [], ◌∷◌, ◌++◌, length, refl, sym, ap, ◌∙◌, subst, ◌⊎◌, inl, inr, arith}
use Rattle.std.proofs.lemmas.Bool.{cases_lt, le-ltb, lt-ltb}
use Rattle.turn_semantics.specs.Lists.{IsAmong}
use Rattle.exceptions.specs.Exceptions.{Label}
use Rattle.cancel_scopes.specs.Sight.{Tick, seen}
use Rattle.job_meaning.specs.Log.{Log, Result, least_sign, from_by, times_entered, Table, followed_by}
use Rattle.job_meaning.specs.Moments.{a_round_after, wakes_at, Now, only_at}
use Rattle.job_meaning.specs.Walk.{event_on, latest}
use Rattle.job_meaning.specs.Before.{upto}
use Rattle.job_meaning.specs.Rest.{Event, ChildOutcomes, fill, outcome_members, Stopped, to_begin, asking, asleep, waiting_for, queued, giving_up, awaiting, at_end, noted, signs, enters, acts, starts, inside}
use Rattle.job_meaning.proofs.MomentLemmas.{round_after, wakes_after}
use Rattle.job_meaning.proofs.Clips.{upto_most}
use Rattle.job_meaning.proofs.Late.{late_awaiting, latest_ends}
use Rattle.turn_semantics.specs.Midway.{Place, label_among, Tables, stack_at, Begun, Move, begun_comes_to}
use Rattle.turn_semantics.specs.Steps.{cancelled_from_after}
use Rattle.turn_semantics.specs.Placed.{PlacedStop}
use Rattle.turn_semantics.specs.Wakes.{Wake, WakesBy}
use Rattle.turn_semantics.specs.Turned.{AgreesOn, AgreesIn, AreOutcomes, labels_of, AllKnown, known_after, Starts, BegunIn, made_sign, EntersIn, StopsAt, TurnsOver}
use Rattle.turn_semantics.proofs.Agreeing.{seen_alike}
use Rattle.turn_semantics.proofs.CancelledFrom.{unsigned}
use Rattle.turn_semantics.proofs.Events.{agrees_after}
use Rattle.turn_semantics.proofs.Turns.{agrees_in_first}
use Rattle.interleavings.specs.Interleaving.{Started, Tells, Fits, times_made, made_least, all_least, made_times, all_times, EnteredIn, EntersWith, StartsChild, Kid, HasFrom, Parent, Entered, EachPlace, Root, RunInvariant, slept, leaves_by, goes_on, leaves_at, resumes, AllFrom}
use Rattle.interleavings.specs.Going.{outcomes_with, children_from, child_from, task_after_turn}
use Rattle.interleavings.proofs.Readings.{in_first, in_second, in_either, enters_first, enters_second, enters_either, starts_either, enters_counted, enters_times, entered_first, entered_second, enters_fill, made_low, all_least_join, all_times_join, made_few, made_counted, first_join, times_join}
use Rattle.interleavings.proofs.Contract.{NumberedFrom, numbers_of, OldOrNew, known_of, each_known, lowered_from, opened_from, placed_stop, stops_at}
use Rattle.interleavings.proofs.Queues.{leaves_since}
use Rattle.interleavings.proofs.Lateness.{slept_after}
use Rattle.interleavings.proofs.Agreement.{agrees_on, agrees_in}
use Rattle.interleavings.proofs.Commit.{outcome_of_old, outcome_of_first, outcome_of_later, tells_begun, tells_itself, left_is, fits_turned, least_turned, times_turned, fits_begun, fill_entered}

-- ---- the new children

-- children that did nothing yet made nothing
begun_least : (k : Tables) (t c : ℕ) (l : Label) (m : ℕ) (bs : List Begun) (ys : List Started) → made_least c l ys ≤ c →
    made_least c l (children_from k t m bs ++ ys) ≡ made_least c l ys
unfolding made_least children_from
begun_least k t c l m [] ys h = refl
begun_least k t c l m (b ∷ bs) ys h = omega (arith, begun_least k t c l (suc m) bs ys h)

begun_times : (k : Tables) (t : ℕ) (l : Label) (m : ℕ) (bs : List Begun) (ys : List Started) →
    made_times l (children_from k t m bs ++ ys) ≡ made_times l ys
unfolding made_times times_made children_from
begun_times k t l m [] ys = refl
begun_times k t l m (b ∷ bs) ys = omega (arith, begun_times k t l (suc m) bs ys)

pub begun_made : (k : Tables) (t m : ℕ) (bs : List Begun) (x : Started) → IsAmong x (children_from k t m bs) → x.made ≡ []
unfolding children_from
begun_made k t m [] x i = absurd i
begun_made k t m (b ∷ bs) x (inl e) = ap (λ (z : Started). z.made) e
begun_made k t m (b ∷ bs) x (inr i) = begun_made k t (suc m) bs x i

begun_count : (k : Tables) (t m : ℕ) (bs : List Begun) (x : Started) → IsAmong x (children_from k t m bs) → x.count ≡ 0
unfolding children_from
begun_count k t m [] x i = absurd i
begun_count k t m (b ∷ bs) x (inl e) = ap (λ (z : Started). z.count) e
begun_count k t m (b ∷ bs) x (inr i) = begun_count k t (suc m) bs x i

-- their frames fit the scopes and nurseries that enclose them, and these have known labels
begun_shape : (k : Tables) (t m : ℕ) (ls : List Label) (bs : List Begun) → BegunIn ls bs →
    (x : Started) → IsAmong x (children_from k t m bs) → PlacedStop x.rest.stopped x.rest.frames x.places
unfolding children_from
begun_shape k t m ls [] p x i = absurd i
begun_shape k t m ls (b ∷ bs) p x (inl e) = subst (λ (z : Started). PlacedStop z.rest.stopped z.rest.frames z.places) (sym e) (p.1, tt)
begun_shape k t m ls (b ∷ bs) p x (inr i) = begun_shape k t (suc m) ls bs p.2 x i

begun_places : (k : Tables) (t m : ℕ) (ls : List Label) (bs : List Begun) → BegunIn ls bs →
    (x : Started) → IsAmong x (children_from k t m bs) → AllKnown x.places ls
unfolding children_from
begun_places k t m ls [] p x i = absurd i
begun_places k t m ls (b ∷ bs) p x (inl e) = subst (λ (z : Started). AllKnown z.places ls) (sym e) p.0
begun_places k t m ls (b ∷ bs) p x (inr i) = begun_places k t (suc m) ls bs p.2 x i

-- they begin in this moment
begun_resumes : (k : Tables) (t m : ℕ) (bs : List Begun) (x : Started) → IsAmong x (children_from k t m bs) → t ≤ resumes k x
unfolding children_from
begun_resumes k t m [] x i = absurd i
begun_resumes k t m (b ∷ bs) x (inl e) = subst (λ (z : Started). t ≤ resumes k z) (sym e) (omega arith)
begun_resumes k t m (b ∷ bs) x (inr i) = begun_resumes k t (suc m) bs x i

-- serial numbers of children
pub old_child : (count : ℕ) (child : ℕ → ℕ) (m i : ℕ) → i < count → child_from count child m i ≡ child i
unfolding child_from
old_child count child m i h = ap (λ (b : Bool). if b then child i else (m + (i - count))) (lt-ltb i count h)

-- children of the turn have serial numbers from m on, in order
pub later_child : (count : ℕ) (child : ℕ → ℕ) (m i : ℕ) → count ≤ i → child_from count child m i ≡ m + (i - count)
unfolding child_from
later_child count child m i h = ap (λ (b : Bool). if b then child i else (m + (i - count))) (le-ltb i count h)

-- the number of a new child, which was started and whose whole result is recorded
record NewChild (k : Tables) (t m : ℕ) (bs : List Begun) (es : List Event) (outcomes : ChildOutcomes) (x : Started) : Type 0 where
  number : ℕ
  started : StartsChild number es
  serial : m ≤ x.serial
  same : x.final_result ≡ outcomes number

new_child : (k : Tables) (t : ℕ) (outcomes : ChildOutcomes) (n m : ℕ) (es : List Event) (bs : List Begun) → Starts n es bs →
    AreOutcomes t k outcomes bs →
    (x : Started) → IsAmong x (children_from k t m bs) → NewChild k t m bs es outcomes x
unfolding children_from
new_child k t outcomes n m [] [] a b x i = absurd i
new_child k t outcomes n m [] (c ∷ bs) a b x i = absurd a
new_child k t outcomes n m (noted u e ∷ es) bs a b x i =
    let r : NewChild k t m bs es outcomes x = new_child k t outcomes n m es bs a b x i in
    record { number = r.number; started = r.started; serial = r.serial; same = r.same }
new_child k t outcomes n m (signs l u ∷ es) bs a b x i =
    let r : NewChild k t m bs es outcomes x = new_child k t outcomes n m es bs a b x i in
    record { number = r.number; started = r.started; serial = r.serial; same = r.same }
new_child k t outcomes n m (enters l u d ∷ es) bs a b x i =
    let r : NewChild k t m bs es outcomes x = new_child k t outcomes n m es bs a b x i in
    record { number = r.number; started = r.started; serial = r.serial; same = r.same }
new_child k t outcomes n m (acts label moment done ∷ es) bs a b x i =
    let r : NewChild k t m bs es outcomes x = new_child k t outcomes n m es bs a b x i in
    record { number = r.number; started = r.started; serial = r.serial; same = r.same }
new_child k t outcomes n m (starts j l u ∷ es) [] a b x i = absurd a
new_child k t outcomes n m (starts j l u ∷ es) (c ∷ bs) a b x (inl e) =
    let z : x.serial ≡ m = ap (λ (v : Started). v.serial) e in
    let final_result : x.final_result ≡ begun_comes_to k t c = ap (λ (v : Started). v.final_result) e in
    record { number = j; started = inl refl; serial = omega arith; same = final_result ∙ sym (ap outcomes (a.0 ∙ sym a.1) ∙ b.0) }
new_child k t outcomes n m (starts j l u ∷ es) (c ∷ bs) a b x (inr i) =
    let r : NewChild k t (suc m) bs es outcomes x = new_child k t outcomes (suc n) (suc m) es bs a.3 b.1 x i in
    let z : suc m ≤ x.serial = r.serial in
    record { number = r.number; started = inr r.started; serial = omega arith; same = r.same }

-- the task of a new child's number
record NewKid (k : Tables) (t : ℕ) (outcomes : ChildOutcomes) (n m : ℕ) (bs : List Begun) (i : ℕ) : Type 0 where
  kid : Started
  among : IsAmong kid (children_from k t m bs)
  serial : kid.serial ≡ m + (i - n)
  same : kid.final_result ≡ outcomes_with k t outcomes bs i

new_kid : (k : Tables) (t : ℕ) (outcomes : ChildOutcomes) (n m : ℕ) (bs : List Begun) → NumberedFrom n bs → (i : ℕ) → n ≤ i → i < n + length bs →
    NewKid k t outcomes n m bs i
unfolding children_from
new_kid k t outcomes n m [] p i h j = absurd (omega arith)
new_kid k t outcomes n m (b ∷ bs) p i h j = by_case (split i n h) (λ g. new_kid k t outcomes (suc n) (suc m) bs p.1 i g (omega arith))
  where
    split : (i n : ℕ) → n ≤ i → (i ≡ n) ⊎ (suc n ≤ i)
    split i n h = grind arith

    by_case : (i ≡ n) ⊎ (suc n ≤ i) → (suc n ≤ i → NewKid k t outcomes (suc n) (suc m) bs i) → NewKid k t outcomes n m (b ∷ bs) i
    by_case (inl g) more =
        let z : b.number ≡ n = p.0 in
        record { kid = _; among = inl refl; serial = omega arith; same = sym (outcome_of_first k t outcomes b bs i (omega arith)) }
    by_case (inr g) more =
        let z : b.number ≡ n = p.0 in
        let x : NewKid k t outcomes (suc n) (suc m) bs i = more g in
        let y : x.kid.serial ≡ suc m + (i - suc n) = x.serial in
        record { kid = x.kid; among = inr x.among; serial = omega arith; same = x.same ∙ sym (outcome_of_later k t outcomes b bs i (omega arith)) }

-- ---- the run

module _ (k : Tables) (f : Table) (whole : Result) (q : Started) (ys : List Started) (interleaving : RunInvariant k f whole (q ∷ ys))
    (now : Now) (from : AllFrom k (q ∷ ys) now.at) (m : ℕ) (small : (x : Started) → IsAmong x (q ∷ ys) → x.serial < m)
    (wake : Wake) (o : Move) (s : Stopped)
    (w : TurnsOver q.stop now q.here f wake q.rest q.places q.count o) (stopped : o.stopped ≡ Some s)
    (come : (outcomes : ChildOutcomes) → Tells q outcomes → WakesBy k outcomes (inside q.rest.frames q.here) q.stop now wake q.rest.stopped q.places) where
  -- the moment in which the new children begin
  abbrev next : ℕ
  next = a_round_after q.here.clock now.at

  -- the moments of cancellation after the turn
  abbrev g : Table
  g = cancelled_from_after f o.made

  abbrev q' : Started
  q' = task_after_turn k now m q o s

  abbrev new : List Started
  new = children_from k next m o.begun

  -- all tasks after the turn
  abbrev pub after_turn : List Started
  after_turn = (q' ∷ new) ++ ys

  near : AgreesOn now.at k.cancelled_from f q.places
  near = agrees_on k f whole (q ∷ ys) interleaving now.at from q.places (interleaving.placed q (inl refl))

  deadlines : AgreesIn now.at k.cancelled_from q.left
  deadlines = agrees_in k f whole (q ∷ ys) interleaving now.at from q (inl refl)

  numbers : NumberedFrom q.count o.begun
  numbers = numbers_of q.count o.made o.begun w.starts

  fit : Fits k q
  fit = interleaving.fits q (inl refl)

  fits_after : (x : Started) → IsAmong x after_turn → Fits k x
  fits_after x (inl e) = subst (λ (z : Started). Fits k z) (sym e) (fits_turned k f now m wake q o s w stopped fit near deadlines come)
  fits_after x (inr i) = by_place (in_either x new ys i)
    where
      by_place : IsAmong x new ⊎ IsAmong x ys → Fits k x
      by_place (inl j) = fits_begun k next m o.begun x j
      by_place (inr j) = interleaving.fits x (inr j)

  shape_after : (x : Started) → IsAmong x after_turn → PlacedStop x.rest.stopped x.rest.frames x.places
  shape_after x (inl e) = subst (λ (z : Started). PlacedStop z.rest.stopped z.rest.frames z.places) (sym e)
      (placed_stop now f wake q o s w stopped)
  shape_after x (inr i) = by_place (in_either x new ys i)
    where
      by_place : IsAmong x new ⊎ IsAmong x ys → PlacedStop x.rest.stopped x.rest.frames x.places
      by_place (inl j) = begun_shape k next m (known_after (labels_of q.places) o.made) o.begun w.begun_in x j
      by_place (inr j) = interleaving.shape x (inr j)

  signed_after : (c : ℕ) (l : Label) → upto c (least_sign l whole.log) ≡ all_least c l after_turn
  unfolding all_least
  signed_after c l =
      let x : upto c (least_sign l whole.log) ≡ all_least c l (q ∷ ys) = interleaving.signed c l in
      let y : all_least c l (q' ∷ new) ≡ min (upto c (made_sign l q.made)) (upto c (least_sign l q.left)) =
      least_turned k f now m wake q o s w stopped fit near deadlines come c l in
      let z : all_least c l after_turn ≡ min (all_least c l (q' ∷ new)) (all_least c l ys) = all_least_join c l (q' ∷ new) ys in
      x ∙ sym (z ∙ ap (λ (v : ℕ). min v (all_least c l ys)) y)

  once_after : (l : Label) → all_times l after_turn ≤ 1
  unfolding all_times
  once_after l =
      let x : all_times l (q ∷ ys) ≤ 1 = interleaving.once l in
      let y : all_times l (q' ∷ new) ≡ times_made l q.made + times_entered l q.left =
      times_turned k f now m wake q o s w stopped fit near deadlines come l in
      let z : all_times l after_turn ≡ all_times l (q' ∷ new) + all_times l ys = all_times_join l (q' ∷ new) ys in
      subst (λ (v : ℕ). v ≤ 1) (sym (z ∙ ap (λ (v : ℕ). v + all_times l ys) y)) x

  made_once : (l : Label) → made_times l after_turn ≤ 1
  made_once l = let x : made_times l after_turn ≤ all_times l after_turn = made_few l after_turn in let y : all_times l after_turn ≤ 1 =
      once_after l in omega arith

  times_after : (l : Label) → made_times l after_turn ≡ (times_made l q.made + times_made l o.made) + made_times l ys
  unfolding made_times
  times_after l =
      let x : times_made l (q.made ++ o.made) ≡ times_made l q.made + times_made l o.made = times_join l q.made o.made in
      omega (arith, begun_times k next l m o.begun ys)

  least_after : (c : ℕ) (l : Label) → made_least c l after_turn
      ≡ min (min (upto c (made_sign l q.made)) (upto c (made_sign l o.made))) (made_least c l ys)
  unfolding made_least
  least_after c l =
      let x : upto c (made_sign l (q.made ++ o.made)) ≡ min (upto c (made_sign l q.made)) (upto c (made_sign l o.made)) =
      first_join c l q.made o.made in
      omega (arith, begun_least k next c l m o.begun ys (made_low c l ys))

  -- the label of an enclosing scope or nursery was entered
  place_counted : (l : Label) (ps : List Place) → EachPlace (Entered (q ∷ ys)) ps → IsAmong l (labels_of ps) → 1 ≤ made_times l (q ∷ ys)
  place_counted l [] p i = absurd i
  place_counted l (x ∷ ps) p (inl e) =
      let a : Entered (q ∷ ys) x.label = p.0 in
      let b : 1 ≤ times_made x.label a.by.made = enters_times x.label a.deadline a.by.made a.made in
      let c : times_made x.label a.by.made ≤ made_times x.label (q ∷ ys) = made_counted x.label a.by (q ∷ ys) a.among in
      subst (λ (z : Label). 1 ≤ made_times z (q ∷ ys)) (sym e) (omega arith)
  place_counted l (x ∷ ps) p (inr i) = place_counted l ps p.1 i

  no_place : (l : Label) → made_times l (q ∷ ys) ≡ 0 → IsAmong l (labels_of q.places) → ⊥
  no_place l h i = let z : 1 ≤ made_times l (q ∷ ys) = place_counted l q.places (interleaving.placed q (inl refl)) i in absurd (omega arith)

  made_after : (c : ℕ) (l : Label) → made_times l after_turn ≡ 0 → made_least c l after_turn ≡ c
  unfolding made_times made_least
  made_after c l h =
      let n : (times_made l q.made + times_made l o.made) + made_times l ys ≡ 0 = sym (times_after l) ∙ h in
      let x : min (upto c (made_sign l q.made)) (made_least c l ys) ≡ c = interleaving.made c l (omega arith) in
      let y : upto c (made_sign l o.made) ≡ c =
      ap (upto c) (unsigned q.here.clock now.at o.made (labels_of q.places) l w.made_now (no_place l (omega arith)) (not_entered (omega arith))) in
      least_after c l ∙ omega arith
    where
      not_entered : times_made l o.made ≡ 0 → EntersIn l o.made → ⊥
      not_entered b i = let z : 1 ≤ times_made l o.made = enters_counted l o.made i in absurd (omega arith)

  abbrev d' : ChildOutcomes
  d' = q'.outcomes

  rest_is : q.left ≡ followed_by (fill d' o.made) q'.left
  rest_is = left_is k f now m wake q o s w stopped fit near deadlines come d'
      (tells_itself k f now m wake q o s w stopped fit near deadlines come)

  all_begun : AreOutcomes next k d' o.begun
  all_begun = tells_begun k f now m wake q o s w stopped fit near deadlines come d'
      (tells_itself k f now m wake q o s w stopped fit near deadlines come)

  in_made : (l : Label) (d : Tick) → EnteredIn l d (fill d' o.made) → EnteredIn l d q.left
  in_made l d j = subst (λ (a : Log). EnteredIn l d a) (sym rest_is) (entered_first l d (fill d' o.made) q'.left j)

  in_rest : (l : Label) (d : Tick) → EnteredIn l d q'.left → EnteredIn l d q.left
  in_rest l d j = subst (λ (a : Log). EnteredIn l d a) (sym rest_is) (entered_second l d (fill d' o.made) q'.left j)

  follows_after : (x : Started) → IsAmong x after_turn → (l : Label) (d : Tick) → EnteredIn l d x.left →
      k.cancelled_from l ≡ from_by d (least_sign l whole.log)
  follows_after x (inl e) l d j = interleaving.follows q (inl refl) l d (in_rest l d (subst (λ (z : Started). EnteredIn l d z.left) e j))
  follows_after x (inr i) l d j = by_place (in_either x new ys i)
    where
      by_place : IsAmong x new ⊎ IsAmong x ys → k.cancelled_from l ≡ from_by d (least_sign l whole.log)
      by_place (inl z) = interleaving.follows q (inl refl) l d (in_made l d
          (fill_entered k next d' q.count m o.made o.begun w.starts all_begun x z l d j))
      by_place (inr z) = interleaving.follows x (inr z) l d j

  -- ---- children

  new_number : (n : ℕ) (es : List Event) (bs : List Begun) → Starts n es bs → (i : ℕ) → StartsChild i es → i < n + length bs
  new_number n [] bs a i h = absurd h
  new_number n (noted u e ∷ es) bs a i h = new_number n es bs a i h
  new_number n (signs l u ∷ es) bs a i h = new_number n es bs a i h
  new_number n (enters l u d ∷ es) bs a i h = new_number n es bs a i h
  new_number n (acts label moment done ∷ es) bs a i h = new_number n es bs a i h
  new_number n (starts j l u ∷ es) [] a i h = absurd a
  new_number n (starts j l u ∷ es) (c ∷ bs) a i (inl e) = let x : j ≡ n = a.0 in omega arith
  new_number n (starts j l u ∷ es) (c ∷ bs) a i (inr h) = let x : i < suc n + length bs = new_number (suc n) es bs a.3 i h in omega arith

  numbered_turned : (i : ℕ) → StartsChild i (q.made ++ o.made) → i < q.count + length o.begun
  numbered_turned i h = by_time (starts_either i q.made o.made h)
    where
      by_time : StartsChild i q.made ⊎ StartsChild i o.made → i < q.count + length o.begun
      by_time (inl j) = let x : i < q.count = interleaving.numbered q (inl refl) i j in omega arith
      by_time (inr j) = new_number q.count o.made o.begun w.starts i j

  numbered_after : (x : Started) → IsAmong x after_turn → (i : ℕ) → StartsChild i x.made → i < x.count
  numbered_after x (inl e) = subst (λ (z : Started). (i : ℕ) → StartsChild i z.made → i < z.count) (sym e) numbered_turned
  numbered_after x (inr i) = by_place (in_either x new ys i)
    where
      by_place : IsAmong x new ⊎ IsAmong x ys → (n : ℕ) → StartsChild n x.made → n < x.count
      by_place (inl z) = λ n h. absurd (subst (λ (es : List Event). StartsChild n es) (begun_made k next m o.begun x z) h)
      by_place (inr z) = interleaving.numbered x (inr z)

  old_kid : (i : ℕ) → i < q.count → Kid after_turn q' i
  old_kid i h = go (interleaving.kids q (inl refl) i h)
    where
      same : q.outcomes i ≡ q'.outcomes i
      same = sym (outcome_of_old k next q.outcomes q.count o.begun numbers i h)

      place : (c : Started) → q.serial < c.serial → IsAmong c (q ∷ ys) → IsAmong c after_turn
      place c l (inl e) = let z : c.serial ≡ q.serial = ap (λ (v : Started). v.serial) e in absurd (omega arith)
      place c l (inr j) = in_second c (q' ∷ new) ys j

      go : Kid (q ∷ ys) q i → Kid after_turn q' i
      go c = record {
        kid = c.kid;
        among = place c.kid c.later c.among;
        serial = c.serial ∙ sym (old_child q.count q.child m i h);
        later =
            c.later;
        same = c.same ∙ same;
      }

  later_kid : (i : ℕ) → q.count ≤ i → i < q.count + length o.begun → Kid after_turn q' i
  later_kid i h j =
      let c : NewKid k next q.outcomes q.count m o.begun i = new_kid k next q.outcomes q.count m o.begun numbers i h j in
      let y : c.kid.serial ≡ m + (i - q.count) = c.serial in
      let v : q.serial < m = small q (inl refl) in
      record {
        kid = c.kid;
        among = inr (in_first c.kid new ys c.among);
        serial = y ∙ sym (later_child q.count q.child m i h);
        later =
            omega arith;
        same = c.same;
      }

  kids_turned : (i : ℕ) → i < q'.count → Kid after_turn q' i
  kids_turned i h = by_order (cases_lt i q.count)
    where
      by_order : (i < q.count) ⊎ (q.count ≤ i) → Kid after_turn q' i
      by_order (inl j) = old_kid i j
      by_order (inr j) = later_kid i j h

  kids_other : (x : Started) → IsAmong x ys → (i : ℕ) → i < x.count → Kid after_turn x i
  kids_other x j i h = go (interleaving.kids x (inr j) i h)
    where
      go_in : (c : Started) → c.serial ≡ x.child i → x.serial < c.serial → c.final_result ≡ x.outcomes i → IsAmong c (q ∷ ys) → Kid after_turn x i
      go_in c n l e (inl z) =
          record {
            kid = q';
            among = inl refl;
            serial = sym (ap (λ (v : Started). v.serial) z) ∙ n;
            later =
                subst (λ (v : ℕ). x.serial < v) (ap (λ (v : Started). v.serial) z) l;
            same = sym (ap (λ (v : Started). v.final_result) z) ∙ e;
          }
      go_in c n l e (inr z) = record { kid = c; among = in_second c (q' ∷ new) ys z; serial = n; later = l; same = e }

      go : Kid (q ∷ ys) x i → Kid after_turn x i
      go c = go_in c.kid c.serial c.later c.same c.among

  kids_after : (x : Started) → IsAmong x after_turn → (i : ℕ) → i < x.count → Kid after_turn x i
  kids_after x (inl e) = subst (λ (z : Started). (i : ℕ) → i < z.count → Kid after_turn z i) (sym e) kids_turned
  kids_after x (inr i) = by_place (in_either x new ys i)
    where
      by_place : IsAmong x new ⊎ IsAmong x ys → (n : ℕ) → n < x.count → Kid after_turn x n
      by_place (inl z) = λ n h. let y : x.count ≡ 0 = begun_count k next m o.begun x z in absurd (omega arith)
      by_place (inr z) = kids_other x z

  -- ---- starters

  starts_first : (i : ℕ) (xs zs : List Event) → StartsChild i xs → StartsChild i (xs ++ zs)
  starts_first i [] zs h = absurd h
  starts_first i (noted u e ∷ xs) zs h = starts_first i xs zs h
  starts_first i (signs l u ∷ xs) zs h = starts_first i xs zs h
  starts_first i (enters l u d ∷ xs) zs h = starts_first i xs zs h
  starts_first i (acts label moment done ∷ xs) zs h = starts_first i xs zs h
  starts_first i (starts j l u ∷ xs) zs (inl e) = inl e
  starts_first i (starts j l u ∷ xs) zs (inr h) = inr (starts_first i xs zs h)

  starts_second : (i : ℕ) (xs zs : List Event) → StartsChild i zs → StartsChild i (xs ++ zs)
  starts_second i [] zs h = h
  starts_second i (noted u e ∷ xs) zs h = starts_second i xs zs h
  starts_second i (signs l u ∷ xs) zs h = starts_second i xs zs h
  starts_second i (enters l u d ∷ xs) zs h = starts_second i xs zs h
  starts_second i (acts label moment done ∷ xs) zs h = starts_second i xs zs h
  starts_second i (starts j l u ∷ xs) zs h = inr (starts_second i xs zs h)

  -- the starter of a task that was there before
  parent_old : (x : Started) → Parent (q ∷ ys) x → Parent after_turn x
  parent_old x p = by_task p.starter p.among p.earlier p.started p.same
    where
      by_task : (z : Started) → IsAmong z (q ∷ ys) → z.serial < x.serial → StartsChild p.number z.made → x.final_result ≡ z.outcomes p.number →
          Parent after_turn x
      by_task z (inl e) l h s =
          let h' : StartsChild p.number q.made = subst (λ (v : Started). StartsChild p.number v.made) e h in
          record {
            starter = q';
            among = inl refl;
            earlier = subst (λ (v : Started). v.serial < x.serial) e l;
            number = p.number;
            started = starts_first p.number q.made o.made h';
            same = s ∙ (ap (λ (v : Started). v.outcomes p.number) e
                ∙ sym (outcome_of_old k next q.outcomes q.count o.begun numbers p.number (interleaving.numbered q (inl refl) p.number h')));
          }
      by_task z (inr j) l h s = record {
        starter = z;
        among = in_second z (q' ∷ new) ys j;
        earlier = l;
        number = p.number;
        started =
            h;
        same = s;
      }

  root_or_old : (x : Started) → (x.final_result ≡ whole) ⊎ Parent (q ∷ ys) x → (x.final_result ≡ whole) ⊎ Parent after_turn x
  root_or_old x (inl e) = inl e
  root_or_old x (inr p) = inr (parent_old x p)

  parent_turned : (q'.final_result ≡ whole) ⊎ Parent after_turn q'
  parent_turned = go (root_or_old q (interleaving.parents q (inl refl)))
    where
      go : (q.final_result ≡ whole) ⊎ Parent after_turn q → (q'.final_result ≡ whole) ⊎ Parent after_turn q'
      go (inl e) = inl e
      go (inr p) = inr (record {
        starter = p.starter;
        among = p.among;
        earlier = p.earlier;
        number = p.number;
        started = p.started;
        same =
            p.same;
      })

  parents_after : (x : Started) → IsAmong x after_turn → (x.final_result ≡ whole) ⊎ Parent after_turn x
  parents_after x (inl e) = subst (λ (z : Started). (z.final_result ≡ whole) ⊎ Parent after_turn z) (sym e) parent_turned
  parents_after x (inr i) = by_place (in_either x new ys i)
    where
      of_new : NewChild k next m o.begun o.made d' x → Parent after_turn x
      of_new c = let v : q.serial < m = small q (inl refl) in let z : m ≤ x.serial = c.serial in
          record {
            starter = q';
            among = inl refl;
            earlier = omega arith;
            number = c.number;
            started =
                starts_second c.number q.made o.made c.started;
            same = c.same;
          }

      by_place : IsAmong x new ⊎ IsAmong x ys → (x.final_result ≡ whole) ⊎ Parent after_turn x
      by_place (inl z) = inr (of_new (new_child k next d' q.count m o.made o.begun w.starts all_begun x z))
      by_place (inr z) = root_or_old x (interleaving.parents x (inr z))

  -- ---- moments of cancellation

  -- of a label that was entered before
  has_from_old : (l : Label) (d : Tick) → 1 ≤ made_times l (q ∷ ys) → HasFrom k.cancelled_from f whole.log (q ∷ ys) l d →
      HasFrom k.cancelled_from g whole.log after_turn l d
  unfolding made_times made_least
  has_from_old l d e p =
      let n : made_times l after_turn ≤ 1 = made_once l in
      let z : times_made l o.made ≡ 0 = omega (arith, times_after l) in
      record {
        settled = p.settled;
        kept = λ c. lowered_from c f l o.made z ∙ (ap (λ (v : ℕ). min v (suc (upto c (made_sign l o.made)))) (p.kept c)
            ∙ omega (arith, least_after c l));
      }

  -- and of one that the turn entered
  has_from_new : (l : Label) (d : Tick) → EntersWith l d o.made → HasFrom k.cancelled_from g whole.log after_turn l d
  unfolding made_times made_least
  has_from_new l d p =
      let n : made_times l after_turn ≤ 1 = made_once l in
      let e : 1 ≤ times_made l o.made = enters_times l d o.made p in
      let z : times_made l q.made + made_times l ys ≡ 0 = omega (arith, times_after l) in
      record {
        settled = interleaving.follows q (inl refl) l d (in_made l d (enters_fill d' l d o.made p));
        kept = λ c.
            let x : min (upto c (made_sign l q.made)) (made_least c l ys) ≡ c = interleaving.made c l z in
            let y : upto c (made_sign l o.made) ≤ c = upto_most c (made_sign l o.made) in
            let u : made_least c l after_turn ≡ upto c (made_sign l o.made) = least_after c l ∙ omega arith in
            opened_from c q.here.clock now.at f (labels_of q.places) l d o.made w.made_now (no_place l z) p (omega (arith, times_after l))
            ∙ ap (λ (v : ℕ). min (upto (suc c) d) (suc v)) (sym u);
      }

  has_from_by : (x : Started) → IsAmong x (q ∷ ys) → (l : Label) (d : Tick) → EntersWith l d x.made →
      HasFrom k.cancelled_from g whole.log after_turn l d
  has_from_by x i l d h =
      let a : 1 ≤ times_made l x.made = enters_times l d x.made h in
      let b : times_made l x.made ≤ made_times l (q ∷ ys) = made_counted l x (q ∷ ys) i in
      has_from_old l d (omega arith) (interleaving.known x i l d h)

  has_from_turned : (l : Label) (d : Tick) → EntersWith l d (q.made ++ o.made) → HasFrom k.cancelled_from g whole.log after_turn l d
  has_from_turned l d h = by_time (enters_either l d q.made o.made h)
    where
      by_time : EntersWith l d q.made ⊎ EntersWith l d o.made → HasFrom k.cancelled_from g whole.log after_turn l d
      by_time (inl j) = has_from_by q (inl refl) l d j
      by_time (inr j) = has_from_new l d j

  has_from_after : (x : Started) → IsAmong x after_turn → (l : Label) (d : Tick) → EntersWith l d x.made →
      HasFrom k.cancelled_from g whole.log after_turn l d
  has_from_after x (inl e) l d h = has_from_turned l d (subst (λ (z : Started). EntersWith l d z.made) e h)
  has_from_after x (inr i) l d h = by_place (in_either x new ys i)
    where
      by_place : IsAmong x new ⊎ IsAmong x ys → HasFrom k.cancelled_from g whole.log after_turn l d
      by_place (inl z) = absurd (subst (λ (es : List Event). EntersWith l d es) (begun_made k next m o.begun x z) h)
      by_place (inr z) = has_from_by x (inr z) l d h

  -- ---- enclosing scopes and nurseries

  entered_old : (l : Label) → Entered (q ∷ ys) l → Entered after_turn l
  entered_old l e = by_task e.by e.among e.made
    where
      by_task : (x : Started) → IsAmong x (q ∷ ys) → EntersWith l e.deadline x.made → Entered after_turn l
      by_task x (inl i) h =
          record {
            deadline = e.deadline;
            by = q';
            among = inl refl;
            made =
                enters_first l e.deadline q.made o.made (subst (λ (z : Started). EntersWith l e.deadline z.made) i h);
          }
      by_task x (inr i) h = record { deadline = e.deadline; by = x; among = in_second x (q' ∷ new) ys i; made = h }

  entered_place : (l : Label) (ps : List Place) → EachPlace (Entered (q ∷ ys)) ps → IsAmong l (labels_of ps) → Entered after_turn l
  entered_place l [] p i = absurd i
  entered_place l (x ∷ ps) p (inl e) = subst (λ (z : Label). Entered after_turn z) (sym e) (entered_old x.label p.0)
  entered_place l (x ∷ ps) p (inr i) = entered_place l ps p.1 i

  entered_either : (l : Label) → OldOrNew (labels_of q.places) o.made l → Entered after_turn l
  entered_either l (inl i) = entered_place l q.places (interleaving.placed q (inl refl)) i
  entered_either l (inr i) = record { deadline = i.0; by = q'; among = inl refl; made = enters_second l i.0 q.made o.made i.1 }

  each_new : (ps : List Place) → AllKnown ps (known_after (labels_of q.places) o.made) → EachPlace (Entered after_turn) ps
  each_new ps p =
      each_known (Entered after_turn) (known_after (labels_of q.places) o.made)
      (λ l h. entered_either l (known_of (labels_of q.places) o.made l h)) ps p

  each_old : (ps : List Place) → EachPlace (Entered (q ∷ ys)) ps → EachPlace (Entered after_turn) ps
  each_old [] p = tt
  each_old (x ∷ ps) p = (entered_old x.label p.0, each_old ps p.1)

  placed_after : (x : Started) → IsAmong x after_turn → EachPlace (Entered after_turn) x.places
  placed_after x (inl e) = subst (λ (z : Started). EachPlace (Entered after_turn) z.places) (sym e) (each_new o.places w.places)
  placed_after x (inr i) = by_place (in_either x new ys i)
    where
      by_place : IsAmong x new ⊎ IsAmong x ys → EachPlace (Entered after_turn) x.places
      by_place (inl z) = each_new x.places (begun_places k next m (known_after (labels_of q.places) o.made) o.begun w.begun_in x z)
      by_place (inr z) = each_old x.places (interleaving.placed x (inr z))

  root_after : Root whole after_turn
  root_after = by_place interleaving.root.root interleaving.root.among interleaving.root.first interleaving.root.comes
    where
      by_place : (x : Started) → IsAmong x (q ∷ ys) → x.serial ≡ 0 → x.final_result ≡ whole → Root whole after_turn
      by_place x (inl e) a b = record {
        root = q';
        among = inl refl;
        first = sym (ap (λ (z : Started). z.serial) e) ∙ a;
        comes =
            sym (ap (λ (z : Started). z.final_result) e) ∙ b;
      }
      by_place x (inr i) a b = record { root = x; among = in_second x (q' ∷ new) ys i; first = a; comes = b }

  -- after a turn the run still agrees with the table
  pub interleaving_turned : RunInvariant k g whole after_turn
  interleaving_turned = record {
    fits = fits_after;
    shape = shape_after;
    numbered = numbered_after;
    kids = kids_after;
    parents = parents_after;
    signed = signed_after;
    once = once_after;
    made = made_after;
    follows = follows_after;
    known = has_from_after;
    placed = placed_after;
    root = root_after;
  }

  -- the table agrees after the turn with the moments of cancellation of the scopes and nurseries that enclose the task then
  near_after : AgreesOn now.at k.cancelled_from g o.places
  near_after =
      agrees_after q.here.clock now.at k.cancelled_from d' o.made q.places o.places f w.made_now w.places near
      (agrees_in_first now.at k.cancelled_from (fill d' o.made) q'.left
      (subst (λ (a : Log). AgreesIn now.at k.cancelled_from a) rest_is deadlines))

  -- the task has its next turn in this moment or later
  from_stop : (x : Stopped) → StopsAt q.here.clock now.at g (Some x) o.places →
      now.at ≤ goes_on q.here.clock d' x (stack_at k.cancelled_from o.places) (leaves_at k x q.here o.places) now.at
  from_stop to_begin c = absurd c
  from_stop (asking kernel purpose) c = omega arith
  from_stop (asleep paced n since) c =
      let e : since ≡ now.at = c.0 in
      let r : since ≤ a_round_after q.here.clock since = round_after q.here.clock since in
      let x : a_round_after q.here.clock since ≤ (slept q.here.clock paced (stack_at k.cancelled_from o.places) n since).end =
      slept_after q.here.clock paced (stack_at k.cancelled_from o.places) n since in
      let y : a_round_after q.here.clock since ≤ wakes_at q.here.clock n since = wakes_after q.here.clock n since in
      omega arith
  from_stop (waiting_for event since) c =
      let e : since ≡ now.at = c in
      let x =
      (late_awaiting q.here.clock (stack_at k.cancelled_from o.places) (event_on event (stack_at k.cancelled_from o.places).events) (only_at since)).ends in
      let y : since ≤ a_round_after q.here.clock since = round_after q.here.clock since in
      omega arith
  from_stop (queued object ask since body) c =
      subst (λ (n : ℕ). n ≤ leaves_by k q.here (label_among true object o.places) since (stack_at k.cancelled_from o.places)) c.0
      (leaves_since k q.here (label_among true object o.places) since (stack_at k.cancelled_from o.places)
      (ap (λ (n : ℕ). seen (stack_at k.cancelled_from o.places).scopes n) c.0 ∙ (seen_alike now.at k.cancelled_from g o.places near_after ∙ c.1)))
  from_stop (giving_up since) (inl e) = omega arith
  from_stop (giving_up since) (inr e) = omega arith
  from_stop (awaiting children ended exc) c =
      let e : ended ≡ now.at = c in
      let z : ended ≤ latest ended (outcome_members d' children) = latest_ends ended (outcome_members d' children) in
      let r : latest ended (outcome_members d' children) ≤ a_round_after q.here.clock (latest ended (outcome_members d' children)) =
      round_after q.here.clock (latest ended (outcome_members d' children)) in
      omega arith
  from_stop (at_end u e) c = let z : u ≡ now.at = c in omega arith

  -- and still nothing that was not made happens before this moment
  pub from_turned : AllFrom k after_turn now.at
  from_turned x (inl e) l = subst (λ (z : Started). now.at ≤ resumes k z) (sym e) (from_stop s (stops_at now f wake q o s w stopped))
  from_turned x (inr i) l = by_place (in_either x new ys i)
    where
      by_place : IsAmong x new ⊎ IsAmong x ys → now.at ≤ resumes k x
      by_place (inl z) =
          let a : now.at ≤ next = round_after q.here.clock now.at in
          let b : next ≤ resumes k x = begun_resumes k next m o.begun x z in
          omega arith
      by_place (inr z) = from x (inr z) l
