-- A wake is what the table says: if a run agrees with the table, a task that may be woken so wakes so according to
-- the table.
use Rattle.std.proofs.Common.{◌≡◌, ℕ, suc, ◌≤◌, min, Bool, true, Option, Some, None, List, refl, inl, inr, sym, ap, ◌∙◌, subst, arith}
use Rattle.turn_semantics.specs.Lists.{IsAmong}
use Rattle.exceptions.specs.Exceptions.{Label, Exc}
use Rattle.cancel_scopes.specs.Sight.{sight, seen}
use Rattle.job_meaning.specs.Log.{Member, Result, Table}
use Rattle.job_meaning.specs.Sharing.{What}
use Rattle.job_meaning.specs.Moments.{wakes_at, Now}
use Rattle.job_meaning.specs.declared.clock.Clock.{Clock}
use Rattle.job_meaning.specs.Walk.{Here, last_grant, leaves_queue, in_time, event_on}
use Rattle.job_meaning.specs.Before.{Near}
use Rattle.job_meaning.specs.Rest.{ChildOutcomes, outcome_members, Stopped, to_begin, asking, asleep, waiting_for, queued, giving_up, awaiting, at_end, inside}
use Rattle.job_meaning.proofs.Clips.{sight_near, seen_near, event_near}
use Rattle.turn_semantics.specs.Midway.{label_among, Tables, stack_at, OwnFits}
use Rattle.turn_semantics.specs.Placed.{IsSome, PlacedStop}
use Rattle.turn_semantics.specs.Wakes.{Wake, begins, sees, gives_up, is_due, has_answer, is_granted, settles, ends_at, SettlesAt, SeesWaiting, GoesOnWaiting, granted_to, LeavesAt, WakesBy}
use Rattle.interleavings.specs.Interleaving.{Started, Tells, RunInvariant, live, slept, goes_on, leaves_at, AllFrom}
use Rattle.interleavings.specs.Woken.{WaitIsOver, SeesNow, IsOver, MayWake}
use Rattle.interleavings.specs.Runs.{keeping}
use Rattle.interleavings.proofs.Contract.{near_places}
use Rattle.interleavings.proofs.Queues.{left_near, granted_alike}
use Rattle.interleavings.proofs.Lateness.{slept_sees, awaited_sees, awaited_goes, event_there, ends_near}
use Rattle.interleavings.proofs.Agreement.{agrees_on, outcomes_ended}

-- whether a task that waits for an event may see a cancellation now, or its wait is over, is the same for two moments of the set that
-- are the same as far as now
pub sees_alike : (clock : Clock) (x y since t : ℕ) → min (suc t) x ≡ min (suc t) y → SeesNow clock x since t → SeesNow clock y since t
sees_alike clock x y since t e (lo, inl h) = (lo, inl (omega arith, h.1))
sees_alike clock x y since t e (lo, inr h) = (lo, inr (omega arith, omega arith))

pub over_alike : (clock : Clock) (x y since t : ℕ) (a b : Bool) → min (suc t) x ≡ min (suc t) y → b ≡ a → IsOver clock x since t a →
    IsOver clock y since t b
over_alike clock x y since t a b e f (inl h) = inl (omega arith, h.1, f ∙ h.2)
over_alike clock x y since t a b e f (inr h) = inr (omega arith, omega arith)

module _ (k : Tables) (f : Table) (whole : Result) (qs : List Started) (o : RunInvariant k f whole qs) (t : ℕ) (from : AllFrom k qs t) (q : Started)
    (i : IsAmong q qs) where
  -- what is seen is the same by the table and by the moments of cancellation that are kept
  near : Near (suc t) (stack_at k.cancelled_from q.places) (stack_at f q.places)
  near = near_places t k.cancelled_from f q.places (agrees_on k f whole qs o t from q.places (o.placed q i))

  same_seen : seen (stack_at k.cancelled_from q.places).scopes t ≡ seen (stack_at f q.places).scopes t
  same_seen = seen_near (suc t) (stack_at k.cancelled_from q.places).scopes (stack_at f q.places).scopes t near.0 (omega arith)

  -- and so is the moment in which an event is set, if it is set by now
  same_set : (event : List ℕ) (since : ℕ) →
      min (suc t) (ends_at q.here.clock k.cancelled_from event since q.places) ≡ min (suc t) (ends_at q.here.clock f event since q.places)
  same_set event since = ends_near (suc t) q.here.clock _ _ since (event_near (suc t) event _ _ near.1)

  -- and so is the moment in which a task leaves a queue, if it leaves it by now
  same_leaving : (here : Here) (since : ℕ) →
      min (suc t) (leaves_queue (sight (stack_at k.cancelled_from q.places).scopes) (last_grant here.clock since))
      ≡ min (suc t) (leaves_queue (sight (stack_at f q.places).scopes) (last_grant here.clock since))
  same_leaving here since =
      left_near (suc t) (sight (stack_at k.cancelled_from q.places).scopes) (sight (stack_at f q.places).scopes) (last_grant here.clock since)
      (sight_near (suc t) (stack_at k.cancelled_from q.places).scopes (stack_at f q.places).scopes near.0)

  over_gives : (children : List ℕ) (ended : ℕ) (e x : Option Exc) → WaitIsOver qs q t children ended e x → (outcomes : ChildOutcomes) → Tells q outcomes →
      SettlesAt q.here.clock t x (outcome_members outcomes children) ended e q.places
  over_gives children ended e x h outcomes tells =
      subst (λ (ms : List Member). SettlesAt q.here.clock t x ms ended e q.places)
      (sym (outcomes_ended k f whole qs o q i outcomes tells h.ends children h.numbers h.over)) h.settled

  -- a wait for an event sees a cancellation, or is over, as the table says
  wait_seen : (event : List ℕ) (since : ℕ) → IsSome (label_among true event q.places) →
      t ≤ goes_on q.here.clock q.outcomes (waiting_for event since) (stack_at k.cancelled_from q.places) 0 q.stop.at →
      SeesNow q.here.clock (ends_at q.here.clock f event since q.places) since t → seen (stack_at f q.places).scopes t ≡ true →
      SeesWaiting q.here.clock (ends_at q.here.clock k.cancelled_from event since q.places) since t (stack_at k.cancelled_from q.places)
  wait_seen event since there late may e =
      awaited_sees q.here.clock (stack_at k.cancelled_from q.places) (event_on event (stack_at k.cancelled_from q.places).events) since t
      (event_there k.cancelled_from event q.places there)
      (sees_alike q.here.clock _ _ since t (sym (same_set event since)) may) (same_seen ∙ e) (omega arith)

  wait_over : (event : List ℕ) (since : ℕ) → IsSome (label_among true event q.places) →
      t ≤ goes_on q.here.clock q.outcomes (waiting_for event since) (stack_at k.cancelled_from q.places) 0 q.stop.at →
      IsOver q.here.clock (ends_at q.here.clock f event since q.places) since t (seen (stack_at f q.places).scopes t) →
      GoesOnWaiting q.here.clock (ends_at q.here.clock k.cancelled_from event since q.places) since t (stack_at k.cancelled_from q.places)
  wait_over event since there late may =
      awaited_goes q.here.clock (stack_at k.cancelled_from q.places) (event_on event (stack_at k.cancelled_from q.places).events) since t
      (event_there k.cancelled_from event q.places there)
      (over_alike q.here.clock _ _ since t _ _ (sym (same_set event since)) same_seen may) (omega arith)

  -- a task in a queue is granted something as the tables say
  queue_granted : (here : Here) (l : Option Label) (since : ℕ) (what : What) →
      granted_to (keeping f k) here l since (stack_at f q.places) ≡ Some (record { at = t; what = what }) →
      granted_to k here l since (stack_at k.cancelled_from q.places) ≡ Some (record { at = t; what = what })
  queue_granted here None since what h = h
  queue_granted here (Some l) since what h =
      granted_alike t since (leaves_queue (sight (stack_at f q.places).scopes) (last_grant here.clock since))
      (leaves_queue (sight (stack_at k.cancelled_from q.places).scopes) (last_grant here.clock since)) (k.granted l here.task since) what
      (sym (same_leaving here since)) h

  -- and leaves the queue so
  left_now : (here : Here) (since : ℕ) → leaves_queue (sight (stack_at f q.places).scopes) (last_grant here.clock since) ≡ t →
      leaves_queue (sight (stack_at k.cancelled_from q.places).scopes) (last_grant here.clock since) ≡ t
  left_now here since h = let e = same_leaving here since in omega arith

  queue_left : (here : Here) (l : Option Label) (since : ℕ) → LeavesAt (keeping f k) here l since t (stack_at f q.places) →
      LeavesAt k here l since t (stack_at k.cancelled_from q.places)
  queue_left here None since h = (h.0, left_now here since h.1)
  queue_left here (Some l) since h = (
    ap (λ (n : ℕ). in_time since n (k.granted l here.task since)) (left_now here since h.1 ∙ sym h.1) ∙ h.0,
    left_now here since h.1,
  )

  by_stop : (own : List Label) (wake : Wake) (s : Stopped) → PlacedStop s q.rest.frames q.places → (outcomes : ChildOutcomes) → Tells q outcomes →
      (live s ≡ true → t ≤ goes_on q.here.clock q.outcomes s (stack_at k.cancelled_from q.places) (leaves_at k s q.here q.places) q.stop.at) →
      OwnFits q.here.clock q.stop.own →
      MayWake (keeping f k) qs (record { at = t; own = own }) q wake s →
      WakesBy k outcomes (inside q.rest.frames q.here) q.stop (record { at = t; own = own }) wake s q.places
  by_stop own begins to_begin place outcomes tells late fits h = (h, subst (λ (v : Now). OwnFits q.here.clock v.own) h fits)
  by_stop own begins (asking kernel purpose) place outcomes tells late fits h = absurd h
  by_stop own begins (asleep paced n since) place outcomes tells late fits h = absurd h
  by_stop own begins (waiting_for event since) place outcomes tells late fits h = absurd h
  by_stop own begins (queued object ask since body) place outcomes tells late fits h = absurd h
  by_stop own begins (giving_up since) place outcomes tells late fits h = absurd h
  by_stop own begins (awaiting children ended e) place outcomes tells late fits h = absurd h
  by_stop own begins (at_end u e) place outcomes tells late fits h = absurd h
  by_stop own (has_answer a) to_begin place outcomes tells late fits h = absurd h
  by_stop own (has_answer a) (asking kernel purpose) place outcomes tells late fits h =
      (h.0, h.1, subst (λ (v : Now). OwnFits q.here.clock v.own) h.0 fits)
  by_stop own (has_answer a) (asleep paced n since) place outcomes tells late fits h = absurd h
  by_stop own (has_answer a) (waiting_for event since) place outcomes tells late fits h = absurd h
  by_stop own (has_answer a) (queued object ask since body) place outcomes tells late fits h = absurd h
  by_stop own (has_answer a) (giving_up since) place outcomes tells late fits h = absurd h
  by_stop own (has_answer a) (awaiting children ended e) place outcomes tells late fits h = absurd h
  by_stop own (has_answer a) (at_end u e) place outcomes tells late fits h = absurd h
  by_stop own (is_granted what) to_begin place outcomes tells late fits h = absurd h
  by_stop own (is_granted what) (asking kernel purpose) place outcomes tells late fits h = absurd h
  by_stop own (is_granted what) (asleep paced n since) place outcomes tells late fits h = absurd h
  by_stop own (is_granted what) (waiting_for event since) place outcomes tells late fits h = absurd h
  by_stop own (is_granted what) (queued object ask since body) place outcomes tells late fits h =
      (queue_granted (inside q.rest.frames q.here) (label_among true object q.places) since what h.0, h.1)
  by_stop own (is_granted what) (giving_up since) place outcomes tells late fits h = absurd h
  by_stop own (is_granted what) (awaiting children ended e) place outcomes tells late fits h = absurd h
  by_stop own (is_granted what) (at_end u e) place outcomes tells late fits h = absurd h
  by_stop own is_due to_begin place outcomes tells late fits h = absurd h
  by_stop own is_due (asking kernel purpose) place outcomes tells late fits h = absurd h
  by_stop own is_due (asleep paced n since) place outcomes tells late fits h = (h.0, same_seen ∙ h.1, h.2)
  by_stop own is_due (waiting_for event since) place outcomes tells late fits h =
      (wait_over event since place.0 (late refl) h.0, h.1)
  by_stop own is_due (queued object ask since body) place outcomes tells late fits h =
      (queue_left (inside q.rest.frames q.here) (label_among true object q.places) since h.0, same_seen ∙ h.1, h.2)
  by_stop own is_due (giving_up since) place outcomes tells late fits h = absurd h
  by_stop own is_due (awaiting children ended e) place outcomes tells late fits h = absurd h
  by_stop own is_due (at_end u e) place outcomes tells late fits h = absurd h
  by_stop own sees to_begin place outcomes tells late fits h = absurd h
  by_stop own sees (asking kernel purpose) place outcomes tells late fits h = absurd h
  by_stop own sees (asleep paced n since) place outcomes tells late fits h =
      let z : t ≤ min (slept q.here.clock paced (stack_at k.cancelled_from q.places) n since).end (wakes_at q.here.clock n since) = late refl in (
        h.0,
        omega arith,
        slept_sees q.here.clock paced (stack_at k.cancelled_from q.places) n since t h.0 (same_seen ∙ h.1) (omega arith) (omega arith),
        h.2,
      )
  by_stop own sees (waiting_for event since) place outcomes tells late fits h =
      (wait_seen event since place.0 (late refl) h.0 h.1, h.2)
  by_stop own sees (queued object ask since body) place outcomes tells late fits h =
      (queue_left (inside q.rest.frames q.here) (label_among true object q.places) since h.0, same_seen ∙ h.1, h.2)
  by_stop own sees (giving_up since) place outcomes tells late fits h = absurd h
  by_stop own sees (awaiting children ended e) place outcomes tells late fits h = absurd h
  by_stop own sees (at_end u e) place outcomes tells late fits h = absurd h
  by_stop own gives_up to_begin place outcomes tells late fits h = absurd h
  by_stop own gives_up (asking kernel purpose) place outcomes tells late fits h = absurd h
  by_stop own gives_up (asleep paced n since) place outcomes tells late fits h = absurd h
  by_stop own gives_up (waiting_for event since) place outcomes tells late fits h = absurd h
  by_stop own gives_up (queued object ask since body) place outcomes tells late fits h = absurd h
  by_stop own gives_up (giving_up since) place outcomes tells late fits h = h
  by_stop own gives_up (awaiting children ended e) place outcomes tells late fits h = absurd h
  by_stop own gives_up (at_end u e) place outcomes tells late fits h = absurd h
  by_stop own (settles x) to_begin place outcomes tells late fits h = absurd h
  by_stop own (settles x) (asking kernel purpose) place outcomes tells late fits h = absurd h
  by_stop own (settles x) (asleep paced n since) place outcomes tells late fits h = absurd h
  by_stop own (settles x) (waiting_for event since) place outcomes tells late fits h = absurd h
  by_stop own (settles x) (queued object ask since body) place outcomes tells late fits h = absurd h
  by_stop own (settles x) (giving_up since) place outcomes tells late fits h = absurd h
  by_stop own (settles x) (awaiting children ended e) place outcomes tells late fits h = (over_gives children ended e x h.0 outcomes tells, h.1)
  by_stop own (settles x) (at_end u e) place outcomes tells late fits h = absurd h

  -- A task that may be woken so wakes so according to the table, whatever is recorded except of its children. What it has
  -- cancelled itself in the moment of its last stop has to fit its clock.
  pub woken : (own : List Label) (wake : Wake) → OwnFits q.here.clock q.stop.own →
      MayWake (keeping f k) qs (record { at = t; own = own }) q wake q.rest.stopped → (outcomes : ChildOutcomes) → Tells q outcomes →
      WakesBy k outcomes (inside q.rest.frames q.here) q.stop (record { at = t; own = own }) wake q.rest.stopped q.places
  woken own wake fits h outcomes tells = by_stop own wake q.rest.stopped (o.shape q i) outcomes tells (from q i) fits h
