-- A turn continues by one step more.
use Rattle.std.proofs.Common.{◌≡◌, ℕ, zero, suc, ◌+◌, Option, None, List, length, sym, subst}
use Rattle.std.specs.Option.{option_map}
use Rattle.exceptions.specs.Exceptions.{Label, Exc}
use Rattle.exceptions.specs.Held.{exc_of}
use Rattle.exceptions.specs.declared.exc.Exc as held
use Rattle.job_meaning.specs.Log.{Table}
use Rattle.job_meaning.specs.Moments.{Now}
use Rattle.job_meaning.specs.Walk.{Here}
use Rattle.turn_semantics.specs.Midway.{Place, Move, own_after, now_after}
use Rattle.turn_semantics.specs.Steps.{cancelled_from_after, step_of, turn_of}
use Rattle.task_machine.specs.declared.stop.Moved.{Moved}
use Rattle.task_machine.specs.declared.stop.Moved.TheVariants.{On}
use Rattle.task_machine.specs.Standing.{Stands, Took, StepsAs, midway_at}
use Rattle.task_machine.specs.States.{State, here_at, now_at}
use Rattle.task_machine.specs.Stops.{Numbers}
use Rattle.task_machine.proofs.Cancelled.{own_on}
use Rattle.task_machine.proofs.Taking.{took_nothing, goes_and_stands}

-- the given number of steps of a turn from a state
abbrev pub so_many : ℕ → State → Option Exc → Table → Numbers → List Place → ℕ → Move
so_many n s exc cancelled_from numbers ps count = turn_of n cancelled_from (now_at s) (here_at s) (midway_at s exc numbers ps count)

-- a task continued by some steps, and is in this state
pub record WentOn (s u : State) (first : Option Exc) (exc : Option held.Exc) (cancelled_from : Table) (numbers : Numbers) (ps : List Place)
    (count : ℕ) : Type 0 where
  pub steps : ℕ
  pub took : Took s u (On exc) cancelled_from numbers (so_many steps s first cancelled_from numbers ps count)
  pub stands :
      Stands u (cancelled_from_after cancelled_from (so_many steps s first cancelled_from numbers ps count).made) took.numbers_after None
      (so_many steps s first cancelled_from numbers ps count).places

-- one step more
pub record WentFurther (s u : State) (first : Option Exc) (goes : Moved) (cancelled_from : Table) (numbers : Numbers) (ps : List Place) (count : ℕ)
    (n : ℕ) : Type 0 where
  pub took : Took s u goes cancelled_from numbers (so_many n s first cancelled_from numbers ps count)
  pub stands :
      Stands u (cancelled_from_after cancelled_from (so_many n s first cancelled_from numbers ps count).made) took.numbers_after
      (so_many n s first cancelled_from numbers ps count).stopped (so_many n s first cancelled_from numbers ps count).places

-- where a task is in time
pub now_is : (t u : ℕ) (own more : List Label) → t ≡ u → own ≡ more →
    (let n : Now = record { at = t; own = own } in n) ≡ record { at = u; own = more }
now_is t u own more e f = cc

-- a task that continued by some steps of a turn and makes one more continued by one more
pub goes_further : (s m u : State) (first : Option Exc) (exc : Option held.Exc) (goes : Moved) (cancelled_from : Table) (numbers : Numbers)
    (ps : List Place) (count : ℕ) → m.part ≡ s.part → m.label ≡ s.label →
    m.clock ≡ s.clock → m.tick ≡ s.tick →
    (g : WentOn s m first exc cancelled_from numbers ps count) → StepsAs m u (option_map exc_of exc) goes →
    WentFurther s u first goes cancelled_from numbers ps count (suc g.steps)
goes_further s m u first exc goes cancelled_from numbers ps count part label clock tick g step =
    let second = step (cancelled_from_after cancelled_from o.made) g.took.numbers_after o.places (count + length o.begun) g.stands in
    let k = midway_at m (option_map exc_of exc) g.took.numbers_after o.places (count + length o.begun) in
    let both =
    goes_and_stands g.steps s m u exc goes cancelled_from numbers (now_at s) (here_at s) ps count first g.took g.stands part clock tick
    (subst (λ (t : Now). Took m u goes (cancelled_from_after cancelled_from o.made) g.took.numbers_after
    (step_of (cancelled_from_after cancelled_from o.made) t (here_at s) k)) now
    (subst (λ (h : Here). Took m u goes (cancelled_from_after cancelled_from o.made) g.took.numbers_after
    (step_of (cancelled_from_after cancelled_from o.made) (now_at m) h k)) here
    second)) in
    record { took = both.0; stands = both.1 }
  where
    here : here_at m ≡ here_at s
    here = cc

    o : Move
    o = so_many g.steps s first cancelled_from numbers ps count

    own : m.cancelled ≡ own_after s.clock s.cancelled o.made
    own = own_on s.clock s.cancelled m.cancelled o.made o.stopped g.took.moves.1 g.took.own

    now : now_at m ≡ now_after s.clock (now_at s) o.made
    now = now_is m.tick s.tick m.cancelled (own_after s.clock s.cancelled o.made) tick own

-- it continues from there
pub goes_on : (s u : State) (first : Option Exc) (exc : Option held.Exc) (cancelled_from : Table) (numbers : Numbers) (ps : List Place)
    (count n : ℕ) → WentFurther s u first (On exc) cancelled_from numbers ps count n → WentOn s u first exc cancelled_from numbers ps count
goes_on s u first exc cancelled_from numbers ps count n m =
    record {
      steps = n;
      took = m.took;
      stands =
          subst
          (λ x. Stands u (cancelled_from_after cancelled_from (so_many n s first cancelled_from numbers ps count).made) m.took.numbers_after x
          (so_many n s first cancelled_from numbers ps count).places)
          m.took.moves.1 m.stands;
    }

-- before its first step
pub goes_nothing : (s : State) (exc : Option held.Exc) (cancelled_from : Table) (numbers : Numbers) (ps : List Place) (count : ℕ) →
    Stands s cancelled_from numbers None ps → WentOn s s (option_map exc_of exc) exc cancelled_from numbers ps count
unfolding turn_of
goes_nothing s exc cancelled_from numbers ps count stands =
    let nothing = took_nothing s exc cancelled_from numbers (now_at s) (here_at s) ps count stands in
    record {
      steps = zero;
      took = nothing.0;
      stands = subst (λ (ns : Numbers). Stands s cancelled_from ns None ps) (sym nothing.1) stands;
    }
