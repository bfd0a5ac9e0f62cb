-- Every turn comes to a stop.
use Rattle.std.proofs.Common.{◌≡◌, ℕ, zero, suc, ◌+◌, ◌-◌, ◌<◌, ◌≤◌, Bool, true, false, Option, Some, None, List, [], ◌∷◌, length, refl, sym, subst, arith, ◌*◌}
use Rattle.job_tree.specs.Tree.{Step, sleep, checkpoint, forever, pace, find, head, longest, need, raise, cancel, set_event, wait_for, ask_for, close_channel, scope, nursery, event, object, start, repeat, attempt, Steps, stop, step, Handled, unhandled, except, Cleaned, uncleaned, finally}
use Rattle.job_tree.specs.declared.object.Ask.{Ask}
use Rattle.exceptions.specs.Exceptions.{Label, Exc}
use Rattle.exceptions.specs.Split.{named, keep, drop}
use Rattle.cancel_scopes.specs.Sight.{seen}
use Rattle.job_meaning.specs.Log.{Table}
use Rattle.job_meaning.specs.Moments.{tick_of, Now, far}
use Rattle.job_meaning.specs.declared.clock.Clock.{Clock}
use Rattle.job_meaning.specs.declared.clock.Clock.TheVariants.{ByTicks as by_ticks, ByRounds as by_rounds}
use Rattle.job_meaning.specs.Walk.{Here, stack_for}
use Rattle.job_meaning.specs.Rest.{Frame, steps_left, in_scope, in_event, with_token, with_part, in_nursery, in_repeat, in_try, in_handler, in_cleanup, inside, consecutive, Stopped}
use Rattle.turn_semantics.specs.Midway.{Place, label_among, stack_at, Midway, Move, after_move, then_move, now_after}
use Rattle.turn_semantics.specs.Steps.{sleeps, falls_asleep, waits_on, asks_of, with_started, handler_if, step_try, step_on, step_steps, step_frames, step_of, cancelled_from_after, turn_of, begins_passes, step_pass}
use Rattle.turn_semantics.specs.Wakes.{Wake, wake_of, turn_from}
use Rattle.turn_semantics.specs.Placed.{IsSome}
use Rattle.turn_semantics.specs.Bound.{turn_length, frames_length}
use Rattle.std.proofs.Math.Nat.{suc-mul}

-- a move that does not stop leaves fewer steps than there were
abbrev pub Shrinks : Option Stopped → ℕ → ℕ → Type 0
Shrinks None after before = after < before
Shrinks (Some s) after before = Unit {0}

-- the same of a move
abbrev pub MoveShrinks : ℕ → Move → Type 0
MoveShrinks before o = Shrinks o.stopped (frames_length o.frames) before

steps_positive : (ss : Steps) → 1 ≤ turn_length ss
steps_positive stop = omega arith
steps_positive (step s ss) = let h = steps_positive ss in omega arith

length_started : (more : List ℕ) (fs : List Frame) → frames_length (with_started more fs) ≡ frames_length fs
length_started more [] = refl
length_started more (in_nursery children ∷ fs) = refl
length_started more (steps_left ss ∷ fs) = let e = length_started more fs in omega arith
length_started more (in_scope fail ∷ fs) = refl
length_started more (in_event ∷ fs) = refl
length_started more (with_token limiter ∷ fs) = refl
length_started more (with_part received ∷ fs) = refl
length_started more (in_repeat pass left cuts again ∷ fs) = let e = length_started more fs in omega arith
length_started more (in_try handler cleanup ∷ fs) = refl
length_started more (in_handler rest cleanup ∷ fs) = refl
length_started more (in_cleanup outcome ∷ fs) = refl

module _ (now : Now) (cancelled_from : Table) (here : Here) where
  shrinks_sleeps : (clock : Clock) (n t before : ℕ) (fs : List Frame) (ps : List Place) → frames_length fs < before →
      MoveShrinks before (sleeps clock cancelled_from false n t fs ps)
  shrinks_sleeps clock n t before fs ps lt = by_clock clock (seen (stack_at cancelled_from ps).scopes t) n
    where
      by_clock : (clock : Clock) (b : Bool) (n : ℕ) → MoveShrinks before (falls_asleep clock b false n t fs ps)
      by_clock by_ticks true n = lt
      by_clock by_ticks false zero = lt
      by_clock by_ticks false (suc n) = tt
      by_clock by_rounds b n = tt

  shrinks_waits : (o : Option Label) (name : List ℕ) (t before : ℕ) (fs : List Frame) (ps : List Place) → frames_length fs < before →
      MoveShrinks before (waits_on o name t fs ps)
  shrinks_waits None name t before fs ps lt = lt
  shrinks_waits (Some l) name t before fs ps lt = tt

  shrinks_asks : (clock : Clock) (o : Option Label) (b : Bool) (name : List ℕ) (ask : Ask) (t before : ℕ) (body : Steps) (fs : List Frame) (ps : List Place) →
      frames_length fs < before → MoveShrinks before (asks_of clock o b name ask t body fs ps)
  shrinks_asks clock None b name ask t before body fs ps lt = lt
  shrinks_asks by_ticks (Some l) true name ask t before body fs ps lt = lt
  shrinks_asks by_ticks (Some l) false name ask t before body fs ps lt = tt
  shrinks_asks by_rounds (Some l) true name ask t before body fs ps lt = tt
  shrinks_asks by_rounds (Some l) false name ask t before body fs ps lt = tt

  shrinks_passes : (n before : ℕ) (over : Bool) (body : Steps) (fs : List Frame) (ps : List Place) →
      n * (1 + turn_length body) + frames_length fs < before → MoveShrinks before (begins_passes n over body fs ps)
  shrinks_passes zero before over body fs ps lt = omega arith
  shrinks_passes (suc k) before over body fs ps lt = let e = suc-mul k (1 + turn_length body) in omega arith

  shrinks_pass : (pass left : ℕ) (cuts : Option ℕ) (body : Steps) (fs : List Frame) (ps : List Place) (exc : Option Exc) →
      MoveShrinks (frames_length (in_repeat pass left cuts body ∷ fs)) (step_pass pass left cuts body fs ps exc)
  shrinks_pass pass left cuts body fs ps (Some e) = omega arith
  shrinks_pass pass zero cuts body fs ps None = omega arith
  shrinks_pass pass (suc k) cuts body fs ps None = let e = suc-mul k (1 + turn_length body) in omega arith

  shrinks_step : (at : Here) (s : Step) (ss : Steps) (fs : List Frame) (ps : List Place) (count : ℕ) →
      MoveShrinks (frames_length (steps_left (step s ss) ∷ fs)) (step_on cancelled_from now at s ss fs ps count)
  shrinks_step at (sleep n) ss fs ps count = shrinks_sleeps at.clock n now.at _ (steps_left ss ∷ fs) ps (omega arith)
  shrinks_step at checkpoint ss fs ps count = shrinks_sleeps at.clock 0 now.at _ (steps_left ss ∷ fs) ps (omega arith)
  shrinks_step at forever ss fs ps count = shrinks_sleeps at.clock (far - tick_of at.clock now.at) now.at _ (steps_left ss ∷ fs) ps (omega arith)
  shrinks_step at (pace k) ss fs ps count = tt
  shrinks_step at (find text) ss fs ps count = tt
  shrinks_step at (head n) ss fs ps count = tt
  shrinks_step at longest ss fs ps count = tt
  shrinks_step at (need text name) ss fs ps count = tt
  shrinks_step at (raise name) ss fs ps count = omega arith
  shrinks_step at (cancel name) ss fs ps count = omega arith
  shrinks_step at (set_event name) ss fs ps count = omega arith
  shrinks_step at (wait_for name) ss fs ps count = shrinks_waits (label_among true name ps) name now.at _ (steps_left ss ∷ fs) ps (omega arith)
  shrinks_step at (ask_for name ask body) ss fs ps count =
      shrinks_asks at.clock (label_among true name ps) (seen (stack_for now.own now.at (stack_at cancelled_from ps).scopes) now.at) name ask now.at _ body
      (steps_left ss ∷ fs) ps (omega arith)
  shrinks_step at (close_channel name) ss fs ps count = omega arith
  shrinks_step at (scope name d shield fail body) ss fs ps count = omega arith
  shrinks_step at (nursery name d shield body) ss fs ps count = omega arith
  shrinks_step at (event name body) ss fs ps count = omega arith
  shrinks_step at (object name kind body) ss fs ps count = omega arith
  shrinks_step at (start name None body) ss fs ps count = let e = length_started (count ∷ []) fs in omega arith
  shrinks_step at (start name (Some k) body) ss fs ps count = let e = length_started (consecutive count k) fs in omega arith
  shrinks_step at (repeat n over body) ss fs ps count = shrinks_passes n _ over body (steps_left ss ∷ fs) ps (omega arith)
  shrinks_step at (attempt body handler cleanup) ss fs ps count = omega arith

  shrinks_steps : (ss : Steps) (fs : List Frame) (ps : List Place) (exc : Option Exc) (count : ℕ) →
      MoveShrinks (frames_length (steps_left ss ∷ fs)) (step_steps cancelled_from now here ss fs ps exc count)
  shrinks_steps ss fs ps (Some e) count = let h = steps_positive ss in omega arith
  shrinks_steps stop fs ps None count = omega arith
  shrinks_steps (step s ss) fs ps None count = shrinks_step (inside fs here) s ss fs ps count

  shrinks_try : (handler : Handled) (cleanup : Cleaned) (fs : List Frame) (ps : List Place) (exc : Option Exc) →
      MoveShrinks (frames_length (in_try handler cleanup ∷ fs)) (step_try handler cleanup fs ps exc)
  shrinks_try unhandled uncleaned fs ps exc = omega arith
  shrinks_try unhandled (finally body) fs ps exc = omega arith
  shrinks_try (except name body) cleanup fs ps None = omega arith
  shrinks_try (except name body) cleanup fs ps (Some e) = by_match (keep (named name) e)
    where
      by_match : (o : Option Exc) → MoveShrinks (frames_length (in_try (except name body) cleanup ∷ fs))
          (handler_if o (drop (named name) e) e body cleanup fs ps)
      by_match None = omega arith
      by_match (Some x) = omega arith

  shrinks_frames : (fs : List Frame) (ps : List Place) (exc : Option Exc) (count : ℕ) →
      MoveShrinks (frames_length fs) (step_frames cancelled_from now here fs ps exc count)
  shrinks_frames [] ps exc count = tt
  shrinks_frames (steps_left ss ∷ fs) ps exc count = shrinks_steps ss fs ps exc count
  shrinks_frames (in_scope fail ∷ fs) [] exc count = omega arith
  shrinks_frames (in_scope fail ∷ fs) (p ∷ ps) exc count = omega arith
  shrinks_frames (in_event ∷ fs) [] exc count = omega arith
  shrinks_frames (in_event ∷ fs) (p ∷ ps) exc count = omega arith
  shrinks_frames (with_token limiter ∷ fs) ps exc count = omega arith
  shrinks_frames (with_part received ∷ fs) ps exc count = omega arith
  shrinks_frames (in_nursery children ∷ fs) [] exc count = omega arith
  shrinks_frames (in_nursery children ∷ fs) (p ∷ ps) exc count = tt
  shrinks_frames (in_repeat pass left cuts body ∷ fs) ps exc count = shrinks_pass pass left cuts body fs ps exc
  shrinks_frames (in_try handler cleanup ∷ fs) ps exc count = shrinks_try handler cleanup fs ps exc
  shrinks_frames (in_handler rest cleanup ∷ fs) ps exc count = omega arith
  shrinks_frames (in_cleanup outcome ∷ fs) ps exc count = omega arith

-- a step that does not stop leaves fewer
pub step_shrinks : (now : Now) (cancelled_from : Table) (here : Here) (m : Midway) → MoveShrinks (frames_length m.frames) (step_of cancelled_from now here m)
unfolding step_of
step_shrinks now cancelled_from here m = shrinks_frames now cancelled_from here m.frames m.places m.exc m.count

-- so a turn of more steps than are left has stopped
pub turn_ends : (n : ℕ) (now : Now) (cancelled_from : Table) (here : Here) (m : Midway) → frames_length m.frames < n →
    IsSome (turn_of n cancelled_from now here m).stopped
unfolding turn_of
turn_ends zero now cancelled_from here m lt = absurd (omega arith)
turn_ends (suc n) now cancelled_from here m lt =
    by_stop (step_of cancelled_from now here m).stopped refl (step_shrinks now cancelled_from here m)
    (λ le. turn_ends n (now_after here.clock now (step_of cancelled_from now here m).made) (cancelled_from_after cancelled_from (step_of cancelled_from now here m).made) here (after_move m (step_of cancelled_from now here m)) le)
  where
    q : Move
    q = turn_of n (cancelled_from_after cancelled_from (step_of cancelled_from now here m).made) (now_after here.clock now (step_of cancelled_from now here m).made) here (after_move m (step_of cancelled_from now here m))

    by_stop : (s : Option Stopped) → (step_of cancelled_from now here m).stopped ≡ s →
        Shrinks s (frames_length (step_of cancelled_from now here m).frames) (frames_length m.frames) →
        (frames_length (step_of cancelled_from now here m).frames < n → IsSome q.stopped) → IsSome (then_move s (step_of cancelled_from now here m) q).stopped
    by_stop (Some s) e h go = subst (λ (z : Option Stopped). IsSome z) (sym e) tt
    by_stop None e h go = go (omega arith)

-- and so has a whole turn, with its wake
pub turn_from_ends : (n : ℕ) (now : Now) (cancelled_from : Table) (here : Here) (w : Wake) (s : Stopped) (fs : List Frame) (ps : List Place) (count : ℕ) →
    frames_length (wake_of cancelled_from now here w s fs ps).frames < n → IsSome (turn_from n cancelled_from now here w s fs ps count).stopped
unfolding turn_from
turn_from_ends n now cancelled_from here w s fs ps count lt = by_stop (wake_of cancelled_from now here w s fs ps).stopped refl
  where
    o : Move
    o = wake_of cancelled_from now here w s fs ps

    m : Midway
    m = record { frames = o.frames; places = o.places; exc = o.exc; count = count + length o.begun }

    by_stop : (z : Option Stopped) → o.stopped ≡ z → IsSome (then_move z o (turn_of n (cancelled_from_after cancelled_from o.made) (now_after here.clock now o.made) here m)).stopped
    by_stop (Some x) e = subst (λ (z : Option Stopped). IsSome z) (sym e) tt
    by_stop None e = turn_ends n (now_after here.clock now o.made) (cancelled_from_after cancelled_from o.made) here m lt
