-- The arms of a turn that make a test, each as one lemma over plain variables: for code that does a step by its own tests.
use Rattle.std.proofs.Common.{◌≡◌, ℕ, suc, Bool, true, false, Option, Some, None, List, ◌∷◌, refl, ap, subst}
use Rattle.job_tree.specs.Tree.{sleep, Steps, step, except, Cleaned, unhandled}
use Rattle.exceptions.specs.Exceptions.{Exc, cancelled}
use Rattle.exceptions.specs.Split.{named, keep, drop}
use Rattle.cancel_scopes.specs.Sight.{seen}
use Rattle.job_meaning.specs.Log.{Table}
use Rattle.job_meaning.specs.Moments.{Now}
use Rattle.job_meaning.specs.declared.clock.Clock.{Clock}
use Rattle.job_meaning.specs.declared.clock.Clock.TheVariants.{ByTicks as by_ticks, ByRounds as by_rounds}
use Rattle.job_meaning.specs.Walk.{Here}
use Rattle.job_meaning.specs.Rest.{Frame, steps_left, in_try, in_handler, asleep}
use Rattle.turn_semantics.specs.Midway.{Place, stack_at, Midway, Move}
use Rattle.turn_semantics.specs.Steps.{onward, blocks_on, falls_asleep, sleeps, handler_if, step_of}
use Rattle.turn_semantics.specs.Placed.{Placed}
use Rattle.turn_semantics.specs.Turned.{Goes}
use Rattle.turn_semantics.proofs.Turns.{turned_step}

-- a move that is the step keeps the promise
pub goes_by : (now : Now) (here : Here) (cancelled_from : Table) (m : Midway) (o : Move) → step_of cancelled_from now here m ≡ o → Placed m.frames m.places →
    Goes now here cancelled_from m o
goes_by now here cancelled_from m o e p = subst (λ (x : Move). Goes now here cancelled_from m x) e (turned_step now here cancelled_from m p)

module _ (now : Now) (here : Here) (cancelled_from : Table) (ps : List Place) (count : ℕ) where
  -- a task in the middle of a turn, by its frames and its exception
  abbrev pub with_frames : List Frame → Option Exc → Midway
  with_frames fs exc = record { frames = fs; places = ps; exc = exc; count = count }

  -- a sleep, by the clock and by whether a cancellation is seen
  falls_by : (n : ℕ) (fs : List Frame) (clock : Clock) (b : Bool) → here.clock ≡ clock → seen (stack_at cancelled_from ps).scopes now.at ≡ b →
      sleeps here.clock cancelled_from false n now.at fs ps ≡ falls_asleep clock b false n now.at fs ps
  falls_by n fs clock b c e = λ i. falls_asleep (c i) (e i) false n now.at fs ps

  -- a sleep where a cancellation is seen, where moments are ticks
  pub sleep_raises : (n : ℕ) (ss : Steps) (fs : List Frame) → here.clock ≡ by_ticks → Placed (steps_left (step (sleep n) ss) ∷ fs) ps →
      seen (stack_at cancelled_from ps).scopes now.at ≡ true →
      Goes now here cancelled_from (with_frames (steps_left (step (sleep n) ss) ∷ fs) None) (onward (steps_left ss ∷ fs) ps (Some cancelled))
  unfolding step_of
  sleep_raises n ss fs c p e =
      goes_by now here cancelled_from (with_frames (steps_left (step (sleep n) ss) ∷ fs) None) (onward (steps_left ss ∷ fs) ps (Some cancelled))
      (falls_by n (steps_left ss ∷ fs) by_ticks true c e) p

  -- a sleep of no tick, with none seen
  pub sleep_passes : (ss : Steps) (fs : List Frame) → here.clock ≡ by_ticks → Placed (steps_left (step (sleep 0) ss) ∷ fs) ps →
      seen (stack_at cancelled_from ps).scopes now.at ≡ false →
      Goes now here cancelled_from (with_frames (steps_left (step (sleep 0) ss) ∷ fs) None) (onward (steps_left ss ∷ fs) ps None)
  unfolding step_of
  sleep_passes ss fs c p e =
      goes_by now here cancelled_from (with_frames (steps_left (step (sleep 0) ss) ∷ fs) None) (onward (steps_left ss ∷ fs) ps None)
      (falls_by 0 (steps_left ss ∷ fs) by_ticks false c e) p

  -- a sleep that stops the task
  pub sleep_stops : (n : ℕ) (ss : Steps) (fs : List Frame) → here.clock ≡ by_ticks → Placed (steps_left (step (sleep (suc n)) ss) ∷ fs) ps →
      seen (stack_at cancelled_from ps).scopes now.at ≡ false →
      Goes now here cancelled_from (with_frames (steps_left (step (sleep (suc n)) ss) ∷ fs) None)
      (blocks_on (asleep false (suc n) now.at) (steps_left ss ∷ fs) ps)
  unfolding step_of
  sleep_stops n ss fs c p e =
      goes_by now here cancelled_from (with_frames (steps_left (step (sleep (suc n)) ss) ∷ fs) None)
      (blocks_on (asleep false (suc n) now.at) (steps_left ss ∷ fs) ps)
      (falls_by (suc n) (steps_left ss ∷ fs) by_ticks false c e) p

  -- where there are rounds, each sleep stops the task
  pub sleep_blocks : (n : ℕ) (ss : Steps) (fs : List Frame) → here.clock ≡ by_rounds → Placed (steps_left (step (sleep n) ss) ∷ fs) ps →
      Goes now here cancelled_from (with_frames (steps_left (step (sleep n) ss) ∷ fs) None)
      (blocks_on (asleep false n now.at) (steps_left ss ∷ fs) ps)
  unfolding step_of
  sleep_blocks n ss fs c p =
      goes_by now here cancelled_from (with_frames (steps_left (step (sleep n) ss) ∷ fs) None)
      (blocks_on (asleep false n now.at) (steps_left ss ∷ fs) ps)
      (falls_by n (steps_left ss ∷ fs) by_rounds (seen (stack_at cancelled_from ps).scopes now.at) c refl) p

  -- a handler whose name some leaf has
  pub handler_runs : (name : List ℕ) (body : Steps) (cleanup : Cleaned) (fs : List Frame) (e x : Exc) →
      Placed (in_try (except name body) cleanup ∷ fs) ps → keep (named name) e ≡ Some x →
      Goes now here cancelled_from (with_frames (in_try (except name body) cleanup ∷ fs) (Some e))
      (onward (steps_left body ∷ in_handler (drop (named name) e) cleanup ∷ fs) ps None)
  unfolding step_of
  handler_runs name body cleanup fs e x p k =
      goes_by now here cancelled_from (with_frames (in_try (except name body) cleanup ∷ fs) (Some e))
      (onward (steps_left body ∷ in_handler (drop (named name) e) cleanup ∷ fs) ps None)
      (ap (λ (o : Option Exc). handler_if o (drop (named name) e) e body cleanup fs ps) k) p

  -- and one whose name no leaf has
  pub handler_passes : (name : List ℕ) (body : Steps) (cleanup : Cleaned) (fs : List Frame) (e : Exc) →
      Placed (in_try (except name body) cleanup ∷ fs) ps → keep (named name) e ≡ None →
      Goes now here cancelled_from (with_frames (in_try (except name body) cleanup ∷ fs) (Some e)) (onward (in_try unhandled cleanup ∷ fs) ps (Some e))
  unfolding step_of
  handler_passes name body cleanup fs e p k =
      goes_by now here cancelled_from (with_frames (in_try (except name body) cleanup ∷ fs) (Some e))
      (onward (in_try unhandled cleanup ∷ fs) ps (Some e))
      (ap (λ (o : Option Exc). handler_if o (drop (named name) e) e body cleanup fs ps) k) p
