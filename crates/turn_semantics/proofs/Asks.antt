-- A turn from a queue makes first what its task asked, and nothing else is asked in a turn.
use Rattle.std.proofs.Common.{ℕ, zero, suc, ◌+◌, ◌-◌, Bool, true, false, Option, Some, None, List, [], ◌∷◌, ◌++◌, refl}
use Rattle.std.specs.Prelude.{codes}
use Rattle.job_tree.specs.Tree.{Step, sleep, checkpoint, forever, pace, find, head, longest, need, raise, cancel, set_event, wait_for, ask_for, close_channel, scope, nursery, event, object, start, repeat, attempt, Steps, stop, step, Handled, unhandled, except, Cleaned, uncleaned, finally}
use Rattle.job_tree.specs.declared.object.Ask.{Ask}
use Rattle.input_lines.specs.Lines.{Span}
use Rattle.exceptions.specs.Exceptions.{Label, Exc, cancelled, raised}
use Rattle.exceptions.specs.Split.{named, keep, drop}
use Rattle.cancel_scopes.specs.Sight.{Level, seen}
use Rattle.job_meaning.specs.Log.{opens, asks, gives_back, closes, Table}
use Rattle.job_meaning.specs.Sharing.{What, a_token, was_sent, a_part, closed_resource, end_of_channel}
use Rattle.job_meaning.specs.Moments.{tick_of, a_round_after, Now, far}
use Rattle.job_meaning.specs.declared.clock.Clock.{Clock}
use Rattle.job_meaning.specs.declared.clock.Clock.TheVariants.{ByTicks as by_ticks, ByRounds as by_rounds}
use Rattle.job_meaning.specs.Walk.{Here, stack_for, event_on, pace_ticks, label_over}
use Rattle.job_meaning.specs.Rest.{Event, noted, signs, enters, acts, starts, starts_over, Frame, steps_left, in_scope, in_event, with_token, with_part, in_nursery, in_repeat, in_try, in_handler, in_cleanup, inside, Stopped, to_begin, asking, asleep, waiting_for, queued, giving_up, awaiting, at_end}
use Rattle.job_meaning.specs.Asking.{Answer, lines, missing, counted, Purpose, shows, needs, paces}
use Rattle.turn_semantics.specs.Midway.{Place, label_among, stack_at, Midway, Move}
use Rattle.turn_semantics.specs.Steps.{sleeps, falls_asleep, signs_to, waits_on, asks_of, acts_on, home_among, signs_home, handler_if, step_try, step_on, step_steps, step_frames, step_of, begins_passes, step_pass}
use Rattle.turn_semantics.specs.Wakes.{Wake, lines_made, goes_on_with, leaves_settled, ends_at, is_checkpoint, gives_up_if, notes_wait, leaves_the_queue, granted_on, wake_of, CanWake, from_start, from_asking, from_sleep, from_due, from_seen_waiting, from_set, from_granted, from_seen_queued, from_deadlock, from_giving_up, from_wait}
use Rattle.turn_semantics.specs.Turned.{AsksNothing, AsksFirst, AskedFirst}

-- ---- events, and more of them

pub nothing_append : (es fs : List Event) → AsksNothing es → AsksNothing fs → AsksNothing (es ++ fs)
nothing_append [] fs a b = b
nothing_append (noted t e ∷ es) fs a b = nothing_append es fs a b
nothing_append (signs l t ∷ es) fs a b = nothing_append es fs a b
nothing_append (enters l t d ∷ es) fs a b = nothing_append es fs a b
nothing_append (acts l t (opens kind) ∷ es) fs a b = nothing_append es fs a b
nothing_append (acts l t (asks ask part left) ∷ es) fs a b = absurd a
nothing_append (acts l t gives_back ∷ es) fs a b = nothing_append es fs a b
nothing_append (acts l t closes ∷ es) fs a b = nothing_append es fs a b
nothing_append (starts i l t ∷ es) fs a b = nothing_append es fs a b

-- what was asked stays the first
first_append : (t : ℕ) (o : Option Label) (here : Here) (ask : Ask) (since : ℕ) (es fs : List Event) → AsksFirst t o here ask since es → AsksNothing fs →
    AsksFirst t o here ask since (es ++ fs)
first_append t None here ask since es fs a b = nothing_append es fs a b
first_append t (Some l) here ask since [] fs a b = absurd a
first_append t (Some l) here ask since (noted u e ∷ es) fs a b = absurd a
first_append t (Some l) here ask since (signs k u ∷ es) fs a b = absurd a
first_append t (Some l) here ask since (enters k u d ∷ es) fs a b = absurd a
first_append t (Some l) here ask since (acts k u (opens kind) ∷ es) fs a b = absurd a
first_append t (Some l) here ask since (acts k u (asks other part left) ∷ es) fs a b = (a.0, a.1, a.2, a.3, a.4, nothing_append es fs a.5 b)
first_append t (Some l) here ask since (acts k u gives_back ∷ es) fs a b = absurd a
first_append t (Some l) here ask since (acts k u closes ∷ es) fs a b = absurd a
first_append t (Some l) here ask since (starts i k u ∷ es) fs a b = absurd a

pub asked_append : (t : ℕ) (here : Here) (s : Option Stopped) (gs : List Frame) (ps : List Place) (es fs : List Event) →
    AskedFirst t here s gs ps es → AsksNothing fs → AskedFirst t here s gs ps (es ++ fs)
asked_append t here None gs ps es fs a b = nothing_append es fs a b
asked_append t here (Some to_begin) gs ps es fs a b = nothing_append es fs a b
asked_append t here (Some (asking kernel purpose)) gs ps es fs a b = nothing_append es fs a b
asked_append t here (Some (asleep paced n since)) gs ps es fs a b = nothing_append es fs a b
asked_append t here (Some (waiting_for name since)) gs ps es fs a b = nothing_append es fs a b
asked_append t here (Some (queued name ask since body)) gs ps es fs a b =
    first_append t (label_among true name ps) (inside gs here) ask since es fs a b
asked_append t here (Some (giving_up since)) gs ps es fs a b = nothing_append es fs a b
asked_append t here (Some (awaiting children ended e)) gs ps es fs a b = nothing_append es fs a b
asked_append t here (Some (at_end u e)) gs ps es fs a b = nothing_append es fs a b

-- ---- events of one kind

nothing_signed : (o : Option Label) (t : ℕ) → AsksNothing (signs_to o t)
nothing_signed None t = tt
nothing_signed (Some l) t = tt

nothing_home : (e : Option Exc) (ps : List Place) (t : ℕ) → AsksNothing (signs_home e ps t)
nothing_home None ps t = tt
nothing_home (Some e) ps t = nothing_signed (home_among ps) t

nothing_started : (name : List ℕ) (here : Here) (t first k : ℕ) → AsksNothing (starts_over name here t first k)
nothing_started name here t first zero = tt
nothing_started name here t first (suc k) =
    nothing_append (starts_over name here t first k) (starts (first + k) (label_over name here k) t ∷ []) (nothing_started name here t first k) tt

nothing_closed : (o : Option Label) (t : ℕ) → AsksNothing (acts_on o t closes)
nothing_closed None t = tt
nothing_closed (Some l) t = tt

nothing_shown : (t : ℕ) (ls : List Span) → AsksNothing (lines_made t ls)
nothing_shown t [] = tt
nothing_shown t (l ∷ ls) = nothing_shown t ls

-- ---- each step

module _ (now : Now) (cancelled_from : Table) (here : Here) where
  -- a move in which nothing is asked
  abbrev Silent : Move → Type 0
  Silent o = AsksNothing o.made

  silent_sleeps : (clock : Clock) (paced : Bool) (n t : ℕ) (fs : List Frame) (ps : List Place) → Silent (sleeps clock cancelled_from paced n t fs ps)
  silent_sleeps clock paced n t fs ps = by_clock clock (seen (stack_at cancelled_from ps).scopes t) n
    where
      by_clock : (clock : Clock) (b : Bool) (n : ℕ) → Silent (falls_asleep clock b paced n t fs ps)
      by_clock by_ticks true n = tt
      by_clock by_ticks false zero = tt
      by_clock by_ticks false (suc n) = tt
      by_clock by_rounds b n = tt

  silent_waits : (o : Option Label) (name : List ℕ) (t : ℕ) (fs : List Frame) (ps : List Place) → Silent (waits_on o name t fs ps)
  silent_waits None name t fs ps = tt
  silent_waits (Some l) name t fs ps = tt

  silent_asks : (clock : Clock) (o : Option Label) (b : Bool) (name : List ℕ) (ask : Ask) (t : ℕ) (body : Steps) (fs : List Frame) (ps : List Place) →
      Silent (asks_of clock o b name ask t body fs ps)
  silent_asks clock None b name ask t body fs ps = tt
  silent_asks by_ticks (Some l) true name ask t body fs ps = tt
  silent_asks by_ticks (Some l) false name ask t body fs ps = tt
  silent_asks by_rounds (Some l) true name ask t body fs ps = tt
  silent_asks by_rounds (Some l) false name ask t body fs ps = tt

  silent_passes : (m : ℕ) (over : Bool) (body : Steps) (fs : List Frame) (ps : List Place) → Silent (begins_passes m over body fs ps)
  silent_passes zero over body fs ps = tt
  silent_passes (suc m) over body fs ps = tt

  silent_pass : (pass left : ℕ) (cuts : Option ℕ) (body : Steps) (fs : List Frame) (ps : List Place) (exc : Option Exc) →
      Silent (step_pass pass left cuts body fs ps exc)
  silent_pass pass left cuts body fs ps (Some e) = tt
  silent_pass pass zero cuts body fs ps None = tt
  silent_pass pass (suc m) cuts body fs ps None = tt

  silent_step : (at : Here) (s : Step) (ss : Steps) (fs : List Frame) (ps : List Place) (n : ℕ) → Silent (step_on cancelled_from now at s ss fs ps n)
  silent_step at (sleep m) ss fs ps n = silent_sleeps at.clock false m now.at (steps_left ss ∷ fs) ps
  silent_step at checkpoint ss fs ps n = silent_sleeps at.clock false 0 now.at (steps_left ss ∷ fs) ps
  silent_step at forever ss fs ps n = silent_sleeps at.clock false (far - tick_of at.clock now.at) now.at (steps_left ss ∷ fs) ps
  silent_step at (pace m) ss fs ps n = tt
  silent_step at (find text) ss fs ps n = tt
  silent_step at (head m) ss fs ps n = tt
  silent_step at longest ss fs ps n = tt
  silent_step at (need text name) ss fs ps n = tt
  silent_step at (raise name) ss fs ps n = tt
  silent_step at (cancel name) ss fs ps n = nothing_signed (label_among false name ps) now.at
  silent_step at (set_event name) ss fs ps n = nothing_signed (label_among true name ps) now.at
  silent_step at (wait_for name) ss fs ps n = silent_waits (label_among true name ps) name now.at (steps_left ss ∷ fs) ps
  silent_step at (ask_for name ask body) ss fs ps n =
      silent_asks at.clock (label_among true name ps) (seen (stack_for now.own now.at (stack_at cancelled_from ps).scopes) now.at) name ask now.at body
      (steps_left ss ∷ fs) ps
  silent_step at (close_channel name) ss fs ps n = nothing_closed (label_among true name ps) now.at
  silent_step at (scope name d shield fail body) ss fs ps n = tt
  silent_step at (nursery name d shield body) ss fs ps n = tt
  silent_step at (event name body) ss fs ps n = tt
  silent_step at (object name kind body) ss fs ps n = tt
  silent_step at (start name None body) ss fs ps n = tt
  silent_step at (start name (Some k) body) ss fs ps n = nothing_started name at (a_round_after at.clock now.at) n k
  silent_step at (repeat m over body) ss fs ps n = silent_passes m over body (steps_left ss ∷ fs) ps
  silent_step at (attempt body handler cleanup) ss fs ps n = tt

  silent_steps : (ss : Steps) (fs : List Frame) (ps : List Place) (exc : Option Exc) (n : ℕ) → Silent (step_steps cancelled_from now here ss fs ps exc n)
  silent_steps ss fs ps (Some e) n = tt
  silent_steps stop fs ps None n = tt
  silent_steps (step s ss) fs ps None n = silent_step (inside fs here) s ss fs ps n

  silent_try : (handler : Handled) (cleanup : Cleaned) (fs : List Frame) (ps : List Place) (exc : Option Exc) → Silent (step_try handler cleanup fs ps exc)
  silent_try unhandled uncleaned fs ps exc = tt
  silent_try unhandled (finally body) fs ps exc = tt
  silent_try (except name body) cleanup fs ps None = tt
  silent_try (except name body) cleanup fs ps (Some e) = by_match (keep (named name) e)
    where
      by_match : (o : Option Exc) → Silent (handler_if o (drop (named name) e) e body cleanup fs ps)
      by_match None = tt
      by_match (Some x) = tt

  silent_frames : (fs : List Frame) (ps : List Place) (exc : Option Exc) (n : ℕ) → Silent (step_frames cancelled_from now here fs ps exc n)
  silent_frames [] ps exc n = nothing_home exc ps now.at
  silent_frames (steps_left ss ∷ fs) ps exc n = silent_steps ss fs ps exc n
  silent_frames (in_scope fail ∷ fs) [] exc n = tt
  silent_frames (in_scope fail ∷ fs) (q ∷ ps) exc n = tt
  silent_frames (in_event ∷ fs) [] exc n = tt
  silent_frames (in_event ∷ fs) (q ∷ ps) exc n = tt
  silent_frames (with_token limiter ∷ fs) ps exc n = tt
  silent_frames (with_part received ∷ fs) ps exc n = tt
  silent_frames (in_nursery children ∷ fs) [] exc n = tt
  silent_frames (in_nursery children ∷ fs) (q ∷ ps) exc n = nothing_home exc (q ∷ ps) now.at
  silent_frames (in_repeat pass left cuts body ∷ fs) ps exc n = silent_pass pass left cuts body fs ps exc
  silent_frames (in_try handler cleanup ∷ fs) ps exc n = silent_try handler cleanup fs ps exc
  silent_frames (in_handler rest cleanup ∷ fs) ps exc n = tt
  silent_frames (in_cleanup outcome ∷ fs) ps exc n = tt

  -- one step
  pub step_asks : (m : Midway) → AsksNothing (step_of cancelled_from now here m).made
  unfolding step_of
  step_asks m = silent_frames m.frames m.places m.exc m.count

  -- ---- each wake

  silent_answered : (a : Answer) (purpose : Purpose) (fs : List Frame) (ps : List Place) → Silent (goes_on_with cancelled_from now.at here a purpose fs ps)
  silent_answered (lines ls) purpose fs ps = nothing_shown now.at ls
  silent_answered missing (needs name) fs ps = tt
  silent_answered missing shows fs ps = tt
  silent_answered missing (paces c) fs ps = tt
  silent_answered (counted m) (paces c) fs ps = silent_sleeps here.clock true (pace_ticks m c) now.at fs ps
  silent_answered (counted m) shows fs ps = tt
  silent_answered (counted m) (needs name) fs ps = tt

  silent_giving : (b : Bool) (t : ℕ) (fs : List Frame) (ps : List Place) → Silent (gives_up_if b t fs ps)
  silent_giving true t fs ps = tt
  silent_giving false t fs ps = tt

  silent_noted : (o : Option (Level Label)) (t : ℕ) (fs : List Frame) (ps : List Place) → Silent (notes_wait o t fs ps)
  silent_noted None t fs ps = tt
  silent_noted (Some l) t fs ps = tt

  silent_settled : (exc : Option Exc) (fs : List Frame) (ps : List Place) → Silent (leaves_settled here.clock cancelled_from now exc fs ps)
  silent_settled exc fs [] = tt
  silent_settled exc fs (p ∷ ps) = tt

  first_leaving : (o : Option Label) (at : Here) (ask : Ask) (since t : ℕ) (e : Exc) (fs : List Frame) (ps : List Place) →
      AsksFirst t o at ask since (leaves_the_queue o at ask since t e fs ps).made
  first_leaving None at ask since t e fs ps = tt
  first_leaving (Some l) at ask since t e fs ps = (refl, refl, refl, refl, refl, tt)

  first_granted : (what : What) (o : Option Label) (at : Here) (ask : Ask) (since t : ℕ) (body : Steps) (fs : List Frame) (ps : List Place) →
      AsksFirst t o at ask since (granted_on o at ask since t body what fs ps).made
  first_granted what None at ask since t body fs ps = tt
  first_granted a_token (Some l) at ask since t body fs ps = (refl, refl, refl, refl, tt, tt)
  first_granted was_sent (Some l) at ask since t body fs ps = (refl, refl, refl, refl, tt, tt)
  first_granted (a_part received) (Some l) at ask since t body fs ps = (refl, refl, refl, refl, tt, tt)
  first_granted closed_resource (Some l) at ask since t body fs ps = (refl, refl, refl, refl, tt, tt)
  first_granted end_of_channel (Some l) at ask since t body fs ps = (refl, refl, refl, refl, tt, tt)

  -- a wake
  pub wake_asks : {w : Wake} {s : Stopped} → CanWake w s → (fs : List Frame) (ps : List Place) →
      AskedFirst now.at here (Some s) fs ps (wake_of cancelled_from now here w s fs ps).made
  wake_asks from_start fs ps = tt
  wake_asks (from_asking {a} {kernel} {purpose}) fs ps = silent_answered a purpose fs ps
  wake_asks (from_sleep {paced = false} {n = zero} {since}) fs ps = tt
  wake_asks (from_sleep {paced = false} {n = suc n} {since}) fs ps = tt
  wake_asks (from_sleep {paced = true} {n} {since}) fs ps = tt
  wake_asks (from_seen_waiting {event = name} {since}) fs ps =
      silent_giving (is_checkpoint here.clock (ends_at here.clock cancelled_from name since ps) since) now.at fs ps
  wake_asks (from_set {event = name} {since}) fs ps = silent_noted (event_on name (stack_at cancelled_from ps).events) now.at fs ps
  wake_asks (from_granted {what} {object = name} {ask} {since} {body}) fs ps =
      first_granted what (label_among true name ps) (inside fs here) ask since now.at body fs ps
  wake_asks (from_seen_queued {object = name} {ask} {since} {body}) fs ps =
      first_leaving (label_among true name ps) (inside fs here) ask since now.at cancelled fs ps
  wake_asks (from_deadlock {object = name} {ask} {since} {body}) fs ps =
      first_leaving (label_among true name ps) (inside fs here) ask since now.at (raised (codes "Deadlock") here.task (tick_of here.clock now.at)) fs ps
  wake_asks from_giving_up fs ps = tt
  wake_asks from_due fs ps = tt
  wake_asks (from_wait {exc} {children} {ended} {e}) fs ps = silent_settled exc fs ps
