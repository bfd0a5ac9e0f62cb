-- What a turn promises, as the other proofs read it: numbers and labels of what it made, the moments of cancellation after it,
-- and its stop.
use Rattle.std.proofs.Common.{◌≡◌, ◌⊎◌, ℕ, suc, ◌+◌, ◌<◌, ◌≤◌, min, Bool, true, false, Option, Some, List, [], ◌∷◌, refl, ap, ◌∙◌, subst, inl, inr, arith}
use Rattle.turn_semantics.specs.Lists.{IsAmong}
use Rattle.exceptions.specs.Exceptions.{Label}
use Rattle.cancel_scopes.specs.Sight.{Tick}
use Rattle.job_meaning.specs.Log.{Log, nil, entry, sign, entered, act, task, Table}
use Rattle.job_meaning.specs.Moments.{a_round_after, Now}
use Rattle.job_meaning.specs.declared.clock.Clock.{Clock}
use Rattle.job_meaning.specs.Before.{upto, Near}
use Rattle.job_meaning.specs.Rest.{Event, noted, signs, enters, acts, starts, ChildOutcomes, Stopped, Rest, rest_comes_to, rest_weight, stop_weight, frames_weight, inside}
use Rattle.turn_semantics.specs.Midway.{Place, level_on, Tables, by_tables, stack_at, Begun, Move, now_after, after_events, stop_comes_to}
use Rattle.turn_semantics.specs.Steps.{cancelled_from_after}
use Rattle.turn_semantics.specs.Placed.{PlacedStop, PlacedAfter}
use Rattle.turn_semantics.specs.Wakes.{Wake, WakesBy}
use Rattle.turn_semantics.specs.Turned.{AgreesOn, AgreesIn, AreOutcomes, AllKnown, known_after, MadeAt, Starts, made_sign, EntersIn, StopsAt, weight_of_stop, weight_of_begun, rounds_skipped, TurnsOver}
use Rattle.turn_semantics.proofs.CancelledFrom.{from_lowered, from_opened}
use Rattle.interleavings.specs.Interleaving.{Started, times_made, EnteredIn, EntersWith, EachPlace}
use Rattle.interleavings.proofs.Readings.{upto_from, enters_counted, enters_once}

-- ---- what is asked of a table

-- a table that agrees with moments of cancellation for enclosing scopes and nurseries is near them on their stacks
pub near_places : (t : ℕ) (k f : Table) (ps : List Place) → AgreesOn t k f ps → Near (suc t) (stack_at k ps) (stack_at f ps)
near_places t k f [] h = (tt, tt)
near_places t k f (p ∷ ps) h = by_kind p.is_event (near_places t k f ps h.1)
  where
    by_kind : (b : Bool) → Near (suc t) (stack_at k ps) (stack_at f ps) →
        Near (suc t) (level_on b (record { label = p.label; shield = p.shield; from = k p.label }) (stack_at k ps))
        (level_on b (record { label = p.label; shield = p.shield; from = f p.label }) (stack_at f ps))
    by_kind true n = (n.0, (refl, refl, h.0, n.1))
    by_kind false n = ((refl, refl, h.0, n.0), n.1)

-- a table that agrees with each deadline in a log agrees with those that the task itself enters
pub agrees_each : (t : ℕ) (k : Table) (a : Log) →
    ((l : Label) (d : Tick) → EnteredIn l d a → upto (suc t) (k l) ≡ upto (suc t) d) → AgreesIn t k a
agrees_each t k nil h = tt
agrees_each t k (entry u e rest) h = agrees_each t k rest h
agrees_each t k (sign l u rest) h = agrees_each t k rest h
agrees_each t k (entered l u d rest) h = (h l d (inl (refl, refl)), agrees_each t k rest (λ m c i. h m c (inr i)))
agrees_each t k (act label moment done rest) h = agrees_each t k rest h
agrees_each t k (task l s u e own rest) h = agrees_each t k rest (λ m c i. h m c (inr i))

-- ---- children

-- children that are numbered on from n
abbrev pub NumberedFrom : ℕ → List Begun → Type 0
NumberedFrom n [] = Unit {0}
NumberedFrom n (b ∷ bs) = (b.number ≡ n) × NumberedFrom (suc n) bs

-- those of the starts of a turn are
pub numbers_of : (n : ℕ) (es : List Event) (bs : List Begun) → Starts n es bs → NumberedFrom n bs
numbers_of n [] [] h = tt
numbers_of n [] (b ∷ bs) h = absurd h
numbers_of n (noted t e ∷ es) bs h = numbers_of n es bs h
numbers_of n (signs l t ∷ es) bs h = numbers_of n es bs h
numbers_of n (enters l t d ∷ es) bs h = numbers_of n es bs h
numbers_of n (acts label moment done ∷ es) bs h = numbers_of n es bs h
numbers_of n (starts i l t ∷ es) [] h = absurd h
numbers_of n (starts i l t ∷ es) (b ∷ bs) h = (h.1, numbers_of (suc n) es bs h.3)

-- ---- labels

-- a label is among these, or was entered among those events
abbrev pub OldOrNew : List Label → List Event → Label → Type 0
OldOrNew ls es l = IsAmong l ls ⊎ ((d : Tick) × EntersWith l d es)

after_entered : (l m : Label) (u : ℕ) (c : Tick) (ls : List Label) (es : List Event) →
    OldOrNew (m ∷ ls) es l → OldOrNew ls (enters m u c ∷ es) l
after_entered l m u c ls es (inl (inl e)) = inr (c, inl (e, refl))
after_entered l m u c ls es (inl (inr i)) = inl i
after_entered l m u c ls es (inr p) = inr (p.0, inr p.1)

-- so is each that is known after events
pub known_of : (ls : List Label) (es : List Event) (l : Label) → IsAmong l (known_after ls es) → OldOrNew ls es l
known_of ls [] l h = inl h
known_of ls (noted t e ∷ es) l h = known_of ls es l h
known_of ls (signs m t ∷ es) l h = known_of ls es l h
known_of ls (enters m t d ∷ es) l h = after_entered l m t d ls es (known_of (m ∷ ls) es l h)
known_of ls (acts label moment done ∷ es) l h = known_of ls es l h
known_of ls (starts i m t ∷ es) l h = known_of ls es l h

-- what is true for each known label is true for each enclosing scope or nursery with a known label
pub each_known : (P : Label → Type 0) (ls : List Label) → ((l : Label) → IsAmong l ls → P l) →
    (ps : List Place) → AllKnown ps ls → EachPlace P ps
each_known P ls h [] p = tt
each_known P ls h (x ∷ ps) p = (h x.label p.0, each_known P ls h ps p.1)

-- ---- moments of cancellation

-- the from of a label that was not entered is lowered by just the signs made
pub lowered_from : (c : ℕ) (f : Table) (l : Label) (es : List Event) → times_made l es ≡ 0 →
    upto (suc c) (cancelled_from_after f es l) ≡ min (upto (suc c) (f l)) (suc (upto c (made_sign l es)))
lowered_from c f l es h =
    ap (λ (x : Tick). upto (suc c) x) (from_lowered es f l not_entered) ∙ upto_from c (f l) (made_sign l es)
  where
    not_entered : EntersIn l es → ⊥
    not_entered i = let j : 1 ≤ times_made l es = enters_counted l es i in absurd (omega arith)

-- that of a label which was entered once, and not known before, is its deadline lowered likewise
pub opened_from : (c : ℕ) (clock : Clock) (t : ℕ) (f : Table) (ls : List Label) (l : Label) (d : Tick) (es : List Event) → MadeAt clock t ls es → (IsAmong l ls → ⊥) →
    EntersWith l d es → times_made l es ≡ 1 → upto (suc c) (cancelled_from_after f es l) ≡ min (upto (suc c) d) (suc (upto c (made_sign l es)))
opened_from c clock t f ls l d es made fresh h n =
    ap (λ (x : Tick). upto (suc c) x) (from_opened clock t es ls f l d made fresh (enters_once l d es h n)) ∙ upto_from c d (made_sign l es)

-- ---- the stop

module _ (now : Now) (f : Table) (wake : Wake) (q : Started) (o : Move) (s : Stopped)
    (w : TurnsOver q.stop now q.here f wake q.rest q.places q.count o) (e : o.stopped ≡ Some s) where
  -- what is left after a turn
  abbrev pub rest_after : Rest
  rest_after = record { stopped = s; frames = o.frames }

  -- what was left before the turn results in what it did, followed by the result of what is left after it
  pub keeps_to : (k : Tables) (outcomes : ChildOutcomes) → AgreesOn now.at k.cancelled_from f q.places →
      AgreesIn now.at k.cancelled_from (rest_comes_to (by_tables k) outcomes q.rest q.here (stack_at k.cancelled_from q.places) q.stop).log →
      AreOutcomes (a_round_after q.here.clock now.at) k outcomes o.begun →
      WakesBy k outcomes (inside q.rest.frames q.here) q.stop now wake q.rest.stopped q.places →
      rest_comes_to (by_tables k) outcomes q.rest q.here (stack_at k.cancelled_from q.places) q.stop
      ≡ after_events outcomes o.made
      (rest_comes_to (by_tables k) outcomes rest_after q.here (stack_at k.cancelled_from o.places) (now_after q.here.clock now o.made))
  keeps_to k outcomes near inside all come =
      w.keeps k outcomes come near (inr inside) all
      ∙ ap (λ (x : Option Stopped). after_events outcomes o.made (stop_comes_to x k outcomes q.here (now_after q.here.clock now o.made) o.frames o.places o.exc)) e

  -- the frames that are left fit the enclosing scopes and nurseries
  pub placed_stop : PlacedStop s o.frames o.places
  placed_stop = subst (λ (x : Option Stopped). PlacedAfter x o.frames o.places) e w.placed

  -- how the task stopped
  pub stops_at : StopsAt q.here.clock now.at (cancelled_from_after f o.made) (Some s) o.places
  stops_at = subst (λ (x : Option Stopped). StopsAt q.here.clock now.at (cancelled_from_after f o.made) x o.places) e w.stops

  -- what is left weighs less than before, that of the children included, and so does it with the rounds that a task skips
  pub lighter : rest_weight rest_after + weight_of_begun o.begun + rounds_skipped now.at (Some s) < rest_weight q.rest
  lighter =
      let a : weight_of_stop o.stopped + frames_weight o.frames + weight_of_begun o.begun + rounds_skipped now.at o.stopped < rest_weight q.rest =
      w.weight in
      let b : weight_of_stop o.stopped ≡ stop_weight s = ap weight_of_stop e in
      let c : rounds_skipped now.at o.stopped ≡ rounds_skipped now.at (Some s) = ap (rounds_skipped now.at) e in
      omega arith
