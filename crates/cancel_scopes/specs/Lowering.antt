-- How a `cancel` lowers the stored effective deadlines (`sight`). No public clause cites this module.
use Rattle.std.specs.Prelude.{◌≡◌, ◌≢◌, ℕ, ◌+◌, ◌*◌, ◌≤◌, ◌⊎◌, Bool, true, if◌then◌else◌, List, [], ◌∷◌, ◌++◌, length, count_by, Option, Some, None, slice_set}
use Rattle.std.specs.List.{Contains}
use Rattle.cancel_scopes.specs.Sight.{Tick, earlier, before}
use Rattle.cancel_scopes.specs.Kept.{Slots, IsTree, scope_in, find_in, own_sight, index_of, is_listed, IsListed, index_under, children_at, Family}
use Rattle.cancel_scopes.specs.declared.store.Scope.{Scope}

-- the effective deadline of a scope, from its own tick and the effective deadline of the scope that encloses it
abbrev pub sight_by : Bool → Tick → Tick → Tick
sight_by shield from outer = if shield then from else earlier from outer

-- the effective deadline of the parent, or never if there is none
abbrev pub outer_sight : Slots → Option ℕ → Tick
outer_sight slots None = None
outer_sight slots (Some parent) = own_sight (scope_in slots parent)

-- a scope's effective deadline follows from its own tick and its parent's effective deadline
abbrev pub IsRight : Slots → Scope → Type 0
IsRight slots s = s.sight ≡ sight_by s.shield s.from (outer_sight slots s.parent)

pub record AllRight (slots : Slots) : Type 0 where
  pub right : (key : ℕ) (s : Scope) → scope_in slots key ≡ Some s → IsRight slots s

-- the rule holds, or the scope waits and its effective deadline comes from an outer one that was later than the tick
abbrev pub IsNear : Slots → ℕ → (ℕ → Scope → Type 0) → ℕ → Scope → Type 0
IsNear slots tick waits key s =
    IsRight slots s ⊎ (waits key s × (outer : Tick) × (before (Some tick) outer ≡ true) × (s.sight ≡ sight_by s.shield s.from outer))

pub record AllNear (slots : Slots) (tick : ℕ) (waits : ℕ → Scope → Type 0) : Type 0 where
  pub near : (key : ℕ) (s : Scope) → scope_in slots key ≡ Some s → IsNear slots tick waits key s

-- a scope waits if its parent is in the list
abbrev pub below : List ℕ → ℕ → Scope → Type 0
below lowered key s = (parent : ℕ) × (s.parent ≡ Some parent) × Contains lowered parent

-- or if it is a child of this parent, from this index on
abbrev pub or_child : ℕ → ℕ → List ℕ → ℕ → Scope → Type 0
or_child parent index lowered key s = below lowered key s ⊎ ((s.parent ≡ Some parent) × (index ≤ s.index))

abbrev pub is_later : ℕ → Option Scope → Bool
is_later tick o = before (Some tick) (own_sight o)

-- a measure of the steps that are left
abbrev pub work : ℕ → Slots → List ℕ → ℕ
work tick slots lowered = 2 * count_by (is_later tick) slots + length lowered

-- what holds during a `cancel`
pub record Lowering (tick : ℕ) (waits : ℕ → Scope → Type 0) (slots : Slots) (changed lowered : List ℕ) : Type 0 where
  pub tree : IsTree (find_in slots)
  pub family : Family slots
  pub listed : IsListed slots changed
  pub near : AllNear slots tick waits
  pub low : (key : ℕ) → Contains lowered key → own_sight (scope_in slots key) ≡ Some tick
  pub room : length lowered + count_by (is_later tick) slots ≤ length slots

-- a scope is lowered and marked
pub record Lowers (tick : ℕ) (old new : Slots) (key : ℕ) : Type 0 where
  pub scope : Scope
  pub index : ℕ
  pub kept : scope_in old key ≡ Some scope
  pub written : new ≡ slice_set old key (Some (record scope { sight = Some tick; listed = Some index }))

-- a scope keeps its effective deadline and its mark, or is lowered from a later effective deadline and marked
abbrev pub Moves : ℕ → Option Scope → Option Scope → Type 0
Moves tick old new =
    ((own_sight new ≡ own_sight old) × (is_listed new ≡ is_listed old))
    ⊎ ((own_sight new ≡ Some tick) × (before (Some tick) (own_sight old) ≡ true) × (is_listed new ≡ true))

pub record Along (tick : ℕ) (old new : Slots) : Type 0 where
  pub long : length new ≡ length old
  pub finds : (key : ℕ) → find_in new key ≡ find_in old key
  pub indices : (parent key : ℕ) → index_under parent (scope_in new key) ≡ index_under parent (scope_in old key)
  pub children : (key : ℕ) → children_at (scope_in new key) ≡ children_at (scope_in old key)
  pub moves : (key : ℕ) → Moves tick (scope_in old key) (scope_in new key)

-- what holds directly after a scope's own tick became earlier
pub record Starts (tick key : ℕ) (slots : Slots) (changed : List ℕ) : Type 0 where
  pub tree : IsTree (find_in slots)
  pub family : Family slots
  pub listed : IsListed slots changed
  pub others : (other : ℕ) (s : Scope) → other ≢ key → scope_in slots other ≡ Some s → IsRight slots s
  pub own : (s : Scope) → scope_in slots key ≡ Some s → (from : Tick) × (s.from ≡ earlier from (Some tick))
      × (s.sight ≡ sight_by s.shield from (outer_sight slots s.parent))

-- the index of a key in the list of changed scopes, to which it is appended if it has none
abbrev pub lists_at : Option ℕ → ℕ → List ℕ → List ℕ → ℕ → Type 0
lists_at (Some at) key old new index = (index ≡ at) × (new ≡ old)
lists_at None key old new index = (index ≡ length old) × (new ≡ old ++ key ∷ [])

abbrev pub lists : ℕ → Option Scope → List ℕ → List ℕ → ℕ → Type 0
lists key o old new index = lists_at (index_of o) key old new index
