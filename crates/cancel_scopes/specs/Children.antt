-- How a scope is added to its parent's children, and removed from them. No public clause cites this module.
use Rattle.std.specs.Prelude.{◌≡◌, ℕ, ◌<◌, ◌==◌, length, Option, Some, None, if◌then◌else◌, vec_len, vec_capacity}
use Rattle.std.specs.Option.{ForSome}
use Rattle.cancel_scopes.specs.Kept.{Slots, scope_in, find_in, own_sight, indices_in, IsPlaced, parent_is, index_under, children_at}
use Rattle.cancel_scopes.specs.declared.store.Scope.{Scope}

-- the parent, if there is one, is open and has room for one more child
abbrev pub HasIndex : Slots → Option ℕ → Type 0
HasIndex slots parent =
    ForSome parent (λ p. (s : Scope) × (scope_in slots p ≡ Some s) × (vec_len s.children < vec_capacity s.children))

-- everything stays the same except the lists of children
pub record SameOutlines (old new : Slots) : Type 0 where
  pub long : length new ≡ length old
  pub finds : (key : ℕ) → find_in new key ≡ find_in old key
  pub sights : (key : ℕ) → own_sight (scope_in new key) ≡ own_sight (scope_in old key)
  pub marks : (key : ℕ) → indices_in new key ≡ indices_in old key

-- the index of each scope among the children of this parent, except that one key has the index given here
abbrev pub indices_but : Slots → ℕ → Option ℕ → ℕ → ℕ → Option ℕ
indices_but slots key index parent k = if k == key then index else index_under parent (scope_in slots k)

-- only this scope is not among its parent's children yet, and its index there is the next one
pub record Orphaned (slots : Slots) (key : ℕ) (parent : Option ℕ) : Type 0 where
  pub others : (p : ℕ) → IsPlaced (indices_but slots key None p) (children_at (scope_in slots p))
  pub under : (p : ℕ) → index_under p (scope_in slots key) ≡ (if parent_is p parent then Some (length (children_at (scope_in slots p))) else
      None)

-- a scope that was removed is still among its parent's children
pub record Lost (slots : Slots) (parent : Option ℕ) (index : ℕ) : Type 0 where
  pub key : ℕ
  pub free : scope_in slots key ≡ None
  pub others : (p : ℕ) → IsPlaced (indices_but slots key (if parent_is p parent then Some index else None) p)
      (children_at (scope_in slots p))
  pub kept : ForSome parent (λ p. (s : Scope) × (scope_in slots p ≡ Some s))
