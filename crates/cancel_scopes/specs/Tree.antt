-- A tree of cancel scopes as contracts see it: the stack of each open scope, innermost scope first. Labels are keys.
use Rattle.std.specs.Prelude.{◌≡◌, ◌≢◌, ℕ, ◌+◌, Bool, true, false, ◌==◌, if◌then◌else◌, List, [], ◌∷◌, ◌++◌, map, Option, Some, None, IsSome, slice_index_or}
use Rattle.std.specs.Option.{unwrap_or, ForSome}
use Rattle.std.specs.List.{All}
use Rattle.cancel_scopes.specs.Sight.{Tick, Level, earlier}
use Rattle.cancel_scopes.specs.Sight as sights

abbrev pub Stack : Type 0
Stack = List (Level ℕ)

-- For each key from 0 on: the stack of the open scope, and whether its effective deadline (`sight`) was lowered since
-- `take_changed` last returned it.
pub record Tree : Type 0 where
  pub stacks : List (Option Stack)
  pub changed : List Bool

-- the stack of a key, or `None` where the key is not open
abbrev pub stack_of : Tree → ℕ → Option Stack
stack_of tree key = slice_index_or tree.stacks key None

-- whether a scope's effective deadline was lowered since `take_changed` last returned it: false where the key is not open
abbrev pub is_changed : Tree → ℕ → Bool
is_changed tree key = slice_index_or tree.changed key false

abbrev pub IsOpen : Tree → ℕ → Type 0
IsOpen tree key = IsSome (stack_of tree key)

-- the scopes that enclose a scope opened under this parent
abbrev pub outer_of : Tree → Option ℕ → Stack
outer_of tree None = []
outer_of tree (Some parent) = unwrap_or (stack_of tree parent) []

-- every key keeps its stack
abbrev pub SameStacks : Tree → Tree → Type 0
SameStacks old new = (key : ℕ) → stack_of new key ≡ stack_of old key

-- every other key keeps its stack
abbrev pub OthersKeep : Tree → Tree → ℕ → Type 0
OthersKeep old new key = (other : ℕ) → other ≢ key → stack_of new other ≡ stack_of old other

-- every key keeps its mark
abbrev pub SameMarks : Tree → Tree → Type 0
SameMarks old new = (key : ℕ) → is_changed new key ≡ is_changed old key

-- every other key keeps its mark
abbrev pub OtherMarksKeep : Tree → Tree → ℕ → Type 0
OtherMarksKeep old new key = (other : ℕ) → other ≢ key → is_changed new other ≡ is_changed old other

-- an open scope that was marked is no longer marked, and every other key keeps its mark
pub record TakesChanged (old new : Tree) (key : ℕ) : Type 0 where
  pub was_open : IsOpen old key
  pub was : is_changed old key ≡ true
  pub is : is_changed new key ≡ false
  pub others : OtherMarksKeep old new key

-- a level after the scope of that label is cancelled in a tick: from the next tick on, unless it was cancelled earlier
abbrev pub level_after_cancel : ℕ → ℕ → Level ℕ → Level ℕ
level_after_cancel id tick l = if l.label == id then record l { from = earlier l.from (Some (tick + 1)) } else l

-- a stack after the scope of that label is cancelled in a tick
abbrev pub after_cancel : ℕ → ℕ → Stack → Stack
after_cancel id tick stack = map (level_after_cancel id tick) stack

-- whether the innermost scope of a stack catches
abbrev pub catches : Stack → ℕ → Bool
catches [] tick = false
catches (l ∷ outer) tick = sights.catches l.from l.shield outer tick

-- the tick from which the innermost scope of a stack is cancelled
abbrev pub own_from : Stack → Tick
own_from [] = None
own_from (l ∷ outer) = l.from

-- whether the innermost scope of a stack has a shield
abbrev pub own_shield : Stack → Bool
own_shield [] = false
own_shield (l ∷ outer) = l.shield

-- the label of the innermost scope of a stack
abbrev pub own_label : Stack → Option ℕ
own_label [] = None
own_label (l ∷ outer) = Some l.label

-- the levels that enclose the innermost one
abbrev pub outer_levels : Stack → Stack
outer_levels [] = []
outer_levels (l ∷ outer) = outer

-- this scope encloses no other open scope
abbrev pub IsInnermost : Tree → ℕ → Type 0
IsInnermost tree key =
    (other : ℕ) (stack : Stack) → other ≢ key → stack_of tree other ≡ Some stack → All (λ l. l.label ≢ key) stack

-- the innermost scope of each stack is the one that the stack belongs to
abbrev pub IsOwn : Tree → Type 0
IsOwn tree = (key : ℕ) → ForSome (stack_of tree key) (λ stack. own_label stack ≡ Some key)

-- each scope in a stack is open itself, and its stack is the rest of that stack, from the scope on
abbrev pub IsChain : Tree → Type 0
IsChain tree =
    (key : ℕ) (stack : Stack) → stack_of tree key ≡ Some stack → (before : Stack) (l : Level ℕ) (after : Stack) →
    stack ≡ before ++ l ∷ after → stack_of tree l.label ≡ Some (l ∷ after)

-- no scope occurs twice in a stack
abbrev pub IsApart : Tree → Type 0
IsApart tree =
    (key : ℕ) (stack : Stack) → stack_of tree key ≡ Some stack → (before : Stack) (l : Level ℕ) (after : Stack) →
    stack ≡ before ++ l ∷ after → All (λ m. m.label ≢ l.label) after
