-- What is known of the effective deadline (`sight`) of a scope, and of an event, from earlier in a moment.
use Rattle.std.specs.Prelude.{◌≡◌, ◌⊎◌, ℕ, ◌+◌, true, Some, List, [], ◌∷◌}
use Rattle.cancel_scopes.specs.Sight.{Tick, earlier, sight}
use Rattle.cancel_scopes.specs.Tree.{Stack, Tree, stack_of, is_changed}
use Rattle.task_machine.specs.Labels.{Events}

-- an open scope has this effective deadline, or is marked as changed
pub record Shows (tree : Tree) (key : ℕ) (kept : Tick) : Type 0 where
  pub stack : Stack
  pub opened : stack_of tree key ≡ Some stack
  pub known : (sight stack ≡ kept) ⊎ (is_changed tree key ≡ true)

-- a key is one of some
abbrev pub IsOneOf : ℕ → List ℕ → Type 0
IsOneOf key [] = ⊥
IsOneOf key (k ∷ ks) = (key ≡ k) ⊎ IsOneOf key ks

-- An event is as it was and not among those that were set in moment t, or it is among them, and others see it as set from the next moment
-- on. The first list is of those that had been set before, and the second has those of both.
abbrev pub StaysOrIsSet : ℕ → (old new : Events) → (was set : List ℕ) → ℕ → Type 0
StaysOrIsSet t old new was set key =
    ((new key ≡ old key) × (IsOneOf key set → IsOneOf key was))
    ⊎ (IsOneOf key set × (from : Tick) × (old key ≡ Some from) × (new key ≡ Some (earlier from (Some (t + 1)))))
