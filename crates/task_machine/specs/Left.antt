-- A task that leaves the innermost of its scopes.
use Rattle.std.specs.Prelude.{◌≡◌, ℕ, false, Option, List, [], ◌∷◌, ◌++◌, map}
use Rattle.std.specs.List.{last_or}
use Rattle.cancel_scopes.specs.Sight.{Level, catches}
use Rattle.cancel_scopes.specs.Tree.{Tree, Stack, outer_of}
use Rattle.job_meaning.specs.Log.{Table}
use Rattle.job_meaning.specs.Walk.{from_for, stack_for}
use Rattle.turn_semantics.specs.Midway.{Place, stack_at}
use Rattle.task_machine.specs.declared.leaving.Closed.{Closed}
use Rattle.task_machine.specs.declared.task.Own.{Own}
use Rattle.task_machine.specs.Stacked.{AreAt}
use Rattle.task_machine.specs.States.{State, stack_in}

-- the keys of a stack, innermost first
abbrev pub keys_of : Stack → List ℕ
keys_of st = map (λ (l : Level ℕ). l.label) st

-- the scopes that a task opened, innermost first
abbrev pub keys_in : List Own → List ℕ
keys_in [] = []
keys_in (o ∷ os) = keys_in os ++ o.id ∷ []

-- the innermost scopes, as far as those of its home, are the ones that the task opened
abbrev pub OwnFirst : Tree → Option ℕ → List Own → Type 0
OwnFirst tree home own = keys_of (outer_of tree (last_or home (map (λ (o : Own). o.id) own))) ≡ keys_in own ++ keys_of (outer_of tree home)

-- The innermost scope or nursery is left: the task is enclosed by the others, with the same moments of cancellation, and the
-- scope that was left catches as its place does.
pub record LeavesFrom (before after : State) (closed : Closed) (cancelled_from : Table) (p : Place) (ps : List Place) : Type 0 where
  pub label : closed.label ≡ p.label
  pub caught :
      p.is_event ≡ false → closed.catches ≡ catches (from_for before.cancelled before.tick p.label (cancelled_from p.label)) p.shield
      (stack_for before.cancelled before.tick (stack_at cancelled_from ps).scopes) before.tick
  pub around : AreAt after.labels after.events cancelled_from (stack_in after) ps

abbrev pub LeavesAt : State → State → Closed → Type 0
LeavesAt before after closed =
    (cancelled_from : Table) (p : Place) (ps : List Place) → AreAt before.labels before.events cancelled_from (stack_in before) (p ∷ ps) →
    LeavesFrom before after closed cancelled_from p ps
