-- Moves of the code, as those of the definitions.
use Rattle.task_machine.specs.Frames.{Lent}
use Rattle.std.proofs.Common.{◌≡◌, ℕ, zero, suc, Bool, true, false, Some, None, List, refl, sym, ◌∙◌, subst}
use Rattle.cancel_scopes.specs.Sight.{seen}
use Rattle.cancel_scopes.specs.Tree as scopes
use Rattle.exceptions.specs.Exceptions.{cancelled}
use Rattle.job_meaning.specs.Log.{Table}
use Rattle.job_meaning.specs.Moments.{wakes_at}
use Rattle.job_meaning.specs.declared.clock.Clock.{Clock}
use Rattle.job_meaning.specs.declared.clock.Clock.TheVariants.{ByTicks as by_ticks, ByRounds as by_rounds}
use Rattle.job_meaning.specs.Rest.{Frame}
use Rattle.nursery_book.specs.declared.book.NurseryBook.{NurseryBook}
use Rattle.turn_semantics.specs.Midway.{Place, Move}
use Rattle.turn_semantics.specs.Steps.{sleeps, falls_asleep}
use Rattle.task_machine.specs.declared.stop.Moved.{Moved}
use Rattle.task_machine.specs.declared.stop.Moved.TheVariants.{Stops}
use Rattle.task_machine.specs.declared.stop.Stop.TheVariants.{Sleep}
use Rattle.task_machine.specs.declared.stop.TaskState.{TaskState}
use Rattle.task_machine.specs.declared.stop.TaskState.TheVariants.{Asleep}
use Rattle.task_machine.specs.Labels.{Labels, Events}
use Rattle.task_machine.specs.Stacked.{AreAt}
use Rattle.task_machine.specs.Stops.{Numbers, MovesAs}
use Rattle.task_machine.proofs.Stacked.{seen_at}

module _ (clock : Clock) (labels : Labels) (events : Events) (cancelled_from : Table) (st : scopes.Stack) (ps : List Place) (paced : Bool) (n t : ℕ)
    (fs : List Frame) where
  -- a sleep goes by what is seen
  sleeps_by : (b : Bool) → AreAt labels events cancelled_from st ps → b ≡ seen st t → (P : Move → Type 0) → P (falls_asleep clock b paced n t fs ps) →
      P (sleeps clock cancelled_from paced n t fs ps)
  sleeps_by b a e P p = subst (λ (x : Bool). P (falls_asleep clock x paced n t fs ps)) (e ∙ seen_at labels events cancelled_from st ps t a) p

  -- where moments are ticks, it raises if a cancellation is seen
  pub sleeps_seen : clock ≡ by_ticks → AreAt labels events cancelled_from st ps → true ≡ seen st t →
      (let o = sleeps clock cancelled_from paced n t fs ps in (Some cancelled ≡ o.exc) × (o.stopped ≡ None))
  sleeps_seen is a e =
      sleeps_by true a e (λ (o : Move). (Some cancelled ≡ o.exc) × (o.stopped ≡ None))
      (subst (λ (c : Clock). let o = falls_asleep c true paced n t fs ps in (Some cancelled ≡ o.exc) × (o.stopped ≡ None)) (sym is)
      (refl, refl))

  -- a sleep of no tick continues
  pub sleeps_on : clock ≡ by_ticks → AreAt labels events cancelled_from st ps → false ≡ seen st t → n ≡ 0 →
      (let o = sleeps clock cancelled_from paced n t fs ps in (None ≡ o.exc) × (o.stopped ≡ None))
  sleeps_on is a e none =
      sleeps_by false a e (λ (o : Move). (None ≡ o.exc) × (o.stopped ≡ None))
      (subst (λ (c : Clock). let o = falls_asleep c false paced n t fs ps in (None ≡ o.exc) × (o.stopped ≡ None)) (sym is)
      (subst (λ (k : ℕ). let o = falls_asleep by_ticks false paced k t fs ps in (None ≡ o.exc) × (o.stopped ≡ None)) (sym none)
      (refl, refl)))

  module _ (numbers : Numbers) (book : NurseryBook) (part : Lent) (goes : Moved) (task_state : TaskState)
      (stops : goes ≡ Stops (Sleep (wakes_at clock n t))) (state : task_state ≡ Asleep paced n t) where
    -- a task that sleeps stops where the definitions do, if they do
    stops_asleep : (o : Move) → MovesAs clock numbers book part (Stops (Sleep (wakes_at clock n t))) (Asleep paced n t) o →
        MovesAs clock numbers book part goes task_state o
    stops_asleep o h =
        subst (λ (g : Moved). MovesAs clock numbers book part g task_state o) (sym stops)
        (subst (λ (s : TaskState). MovesAs clock numbers book part (Stops (Sleep (wakes_at clock n t))) s o) (sym state) h)

    -- and another one stops
    pub sleeps_off : clock ≡ by_ticks → AreAt labels events cancelled_from st ps → false ≡ seen st t → (n ≡ 0 → ⊥) →
        MovesAs clock numbers book part goes task_state (sleeps clock cancelled_from paced n t fs ps)
    sleeps_off is a e some =
        stops_asleep (sleeps clock cancelled_from paced n t fs ps)
        (sleeps_by false a e (λ (o : Move). MovesAs clock numbers book part (Stops (Sleep (wakes_at clock n t))) (Asleep paced n t) o)
        (by_clock clock n is some))
      where
        by_clock : (c : Clock) (k : ℕ) → c ≡ by_ticks → (k ≡ 0 → ⊥) →
            MovesAs c numbers book part (Stops (Sleep (wakes_at c k t))) (Asleep paced k t) (falls_asleep c false paced k t fs ps)
        by_clock by_ticks zero e f = absurd (f refl)
        by_clock by_ticks (suc k) e f = (refl, ((refl, refl, refl), refl))
        by_clock by_rounds k e f = absurd (let g : by_rounds ≡ by_ticks = e in cc)

    -- where there are rounds, each sleep stops
    pub sleeps_round : clock ≡ by_rounds → MovesAs clock numbers book part goes task_state (sleeps clock cancelled_from paced n t fs ps)
    sleeps_round is = stops_asleep (sleeps clock cancelled_from paced n t fs ps) (by_clock clock is)
      where
        by_clock : (c : Clock) → c ≡ by_rounds →
            MovesAs c numbers book part (Stops (Sleep (wakes_at c n t))) (Asleep paced n t) (sleeps c cancelled_from paced n t fs ps)
        by_clock by_ticks e = absurd (let g : by_ticks ≡ by_rounds = e in cc)
        by_clock by_rounds e = (refl, ((refl, refl, refl), refl))
