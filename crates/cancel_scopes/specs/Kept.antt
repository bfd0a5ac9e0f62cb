-- How a tree of cancel scopes is stored. No public clause cites this module.
use Rattle.std.specs.Prelude.{◌≡◌, ◌≢◌, ℕ, zero, suc, ◌<◌, ◌≤◌, Bool, false, ◌||◌, ◌==◌, if◌then◌else◌, List, [], ◌∷◌, map, length, count_by, Option, Some, None, is_some, slice_index_or, slice_index}
use Rattle.std.specs.Option.{option_map}
use Rattle.std.specs.List.{range_with_len}
use Rattle.cancel_scopes.specs.Sight.{Level, Tick, before, sight}
use Rattle.cancel_scopes.specs.Tree.{Stack, Tree}
use Rattle.cancel_scopes.specs.declared.store.Scope.{Scope}

-- the fields of a scope from which its stack is computed
pub record Outline : Type 0 where
  pub parent : Option ℕ
  pub shield : Bool
  pub from : Tick
  pub depth : ℕ

abbrev pub outline_of : Scope → Outline
outline_of s = record { parent = s.parent; shield = s.shield; from = s.from; depth = s.depth }

-- the outline under each key
abbrev pub Find : Type 0
Find = ℕ → Option Outline

abbrev pub level_of : ℕ → Outline → Level ℕ
level_of key s = record { label = key; shield = s.shield; from = s.from }

-- the level of the scope under a key, followed by the levels above it
abbrev pub onto : ℕ → Option Outline → (Outline → Stack) → Stack
onto key None above = []
onto key (Some s) above = level_of key s ∷ above s

-- the stack from a parent on, of at most the given number of scopes
abbrev pub upward : Find → ℕ → Option ℕ → Stack
upward find zero at = []
upward find (suc n) None = []
upward find (suc n) (Some key) = onto key (find key) (λ s. upward find n s.parent)

-- the scopes that enclose a scope
abbrev pub around : Find → Outline → Stack
around find s = upward find s.depth s.parent

-- the stack of a scope
abbrev pub full : Find → ℕ → Outline → Stack
full find key s = level_of key s ∷ around find s

abbrev pub stack_at : Find → ℕ → Option Stack
stack_at find key = option_map (full find key) (find key)

-- the parent, if there is one, is open and its depth is less by one; without a parent the depth is 0
abbrev pub IsUnder : Find → ℕ → Option ℕ → Type 0
IsUnder find depth None = depth ≡ 0
IsUnder find depth (Some parent) = (above : Outline) × (find parent ≡ Some above) × (depth ≡ suc above.depth)

-- every open scope has such a parent, so going up from parent to parent ends
pub record IsTree (find : Find) : Type 0 where
  pub placed : (key : ℕ) (s : Outline) → find key ≡ Some s → IsUnder find s.depth s.parent

-- the open scopes by their keys
abbrev pub Slots : Type 0
Slots = List (Option Scope)

abbrev pub scope_in : Slots → ℕ → Option Scope
scope_in slots key = slice_index_or slots key None

abbrev pub find_in : Slots → Find
find_in slots key = option_map outline_of (scope_in slots key)

-- its index in the list of changed scopes, if it is there
abbrev pub index_of : Option Scope → Option ℕ
index_of None = None
index_of (Some s) = s.listed

abbrev pub is_listed : Option Scope → Bool
is_listed o = is_some (index_of o)

-- what contracts see of the open scopes
abbrev pub tree_of : Slots → Tree
tree_of slots = record {
  stacks = map (stack_at (find_in slots)) (range_with_len 0 (length slots));
  changed =
      map (λ key. is_listed (scope_in slots key)) (range_with_len 0 (length slots));
}

abbrev pub own_sight : Option Scope → Tick
own_sight None = None
own_sight (Some s) = s.sight

abbrev pub sight_of : Option Stack → Tick
sight_of None = None
sight_of (Some stack) = sight stack

-- the effective deadline (`sight`) of the scope under a key
abbrev pub seen_at : Find → ℕ → Tick
seen_at find key = sight_of (stack_at find key)

-- each scope keeps the effective deadline of its stack
abbrev pub HasSights : Slots → Type 0
HasSights slots = (key : ℕ) → own_sight (scope_in slots key) ≡ seen_at (find_in slots) key

-- each key that has an index is at that index in the list, and each key in the list has its index
pub record IsPlaced (indices : ℕ → Option ℕ) (list : List ℕ) : Type 0 where
  pub stands : (key index : ℕ) → indices key ≡ Some index → (index < length list) × (slice_index list index ≡ key)
  pub placed : (index : ℕ) → index < length list → indices (slice_index list index) ≡ Some index

abbrev pub indices_in : Slots → ℕ → Option ℕ
indices_in slots key = index_of (scope_in slots key)

-- the list of changed scopes contains exactly the scopes that have an index in it
pub record IsListed (slots : Slots) (changed : List ℕ) : Type 0 where
  pub indices : IsPlaced (indices_in slots) changed
  pub counted : length changed ≡ count_by is_listed slots

-- whether a scope's parent is this one
abbrev pub parent_is : ℕ → Option ℕ → Bool
parent_is parent None = false
parent_is parent (Some other) = other == parent

abbrev pub index_under : ℕ → Option Scope → Option ℕ
index_under parent None = None
index_under parent (Some s) = if parent_is parent s.parent then Some s.index else None

abbrev pub children_at : Option Scope → List ℕ
children_at None = []
children_at (Some s) = s.children.items

-- the children of each scope are exactly the scopes that have an index under it
pub record Family (slots : Slots) : Type 0 where
  pub children : (parent : ℕ) → IsPlaced (λ key. index_under parent (scope_in slots key)) (children_at (scope_in slots parent))

-- everything stays the same except which scopes are marked
pub record SameScopes (old new : Slots) : Type 0 where
  pub long : length new ≡ length old
  pub finds : (key : ℕ) → find_in new key ≡ find_in old key
  pub sights : (key : ℕ) → own_sight (scope_in new key) ≡ own_sight (scope_in old key)
  pub indices : (parent key : ℕ) → index_under parent (scope_in new key) ≡ index_under parent (scope_in old key)
  pub children : (key : ℕ) → children_at (scope_in new key) ≡ children_at (scope_in old key)

-- the scope of this key now has this mark, and every other scope keeps its mark
pub record Marks (old new : Slots) (key : ℕ) (mark : Bool) : Type 0 where
  pub same : SameScopes old new
  pub here : is_listed (scope_in new key) ≡ mark
  pub others : (other : ℕ) → other ≢ key → is_listed (scope_in new other) ≡ is_listed (scope_in old other)

-- the scope of a key now has the effective deadline of its stack, and is marked if it was before or if that became earlier
abbrev pub IsFresh : Slots → Slots → ℕ → Type 0
IsFresh old new key =
    (own_sight (scope_in new key) ≡ seen_at (find_in old) key)
    × (is_listed (scope_in new key) ≡ (is_listed (scope_in old key) || before (own_sight (scope_in new key))
    (own_sight (scope_in old key))))

-- each scope now has the effective deadline of its stack, and each whose effective deadline became earlier is marked
pub record AllFresh (old new : Slots) : Type 0 where
  pub long : length new ≡ length old
  pub finds : (key : ℕ) → find_in new key ≡ find_in old key
  pub fresh : (key : ℕ) → IsFresh old new key

-- between calls: nothing is left to lower, and both lists have room for the key of each slot
pub record IsReady (slots : Slots) (changed : List ℕ) (changed_room lowered lowered_room : ℕ) : Type 0 where
  pub tree : IsTree (find_in slots)
  pub family : Family slots
  pub sights : HasSights slots
  pub listed : IsListed slots changed
  pub changed_fits : length slots ≤ changed_room
  pub none_lowered : lowered ≡ 0
  pub lowered_fits : length slots ≤ lowered_room
