-- What contracts see: in which scope each task sleeps, and the effective deadline (`sight`) of each scope, which is the tick
-- from which a task in it sees a cancellation.
use Rattle.std.specs.Prelude.{◌≡◌, ◌≢◌, ℕ, ◌<◌, ◌≤◌, List, Option, Some, None, slice_index_or}
use Rattle.std.specs.Option.{ForSome, IsSomeAnd}
use Rattle.clock.specs.Ticks.{tick_in}

-- the scope of each task, at the task's key, and the tick of each scope, at the scope's key
pub record Sleeping : Type 0 where
  pub scopes : List (Option ℕ)
  pub sights : List (Option ℕ)

abbrev pub scope_at : List (Option ℕ) → ℕ → Option ℕ
scope_at scopes task = slice_index_or scopes task None

-- the scope in which a task sleeps, by the key of the task, or `None` where it does not sleep
abbrev pub scope_in : Sleeping → ℕ → Option ℕ
scope_in s task = scope_at s.scopes task

-- the effective deadline of a scope, by the key of the scope, where `None` is never
-- It is meaningful only for scopes in which a task sleeps.
abbrev pub sight_of : Sleeping → ℕ → Option ℕ
sight_of s scope = tick_in s.sights scope

-- the task now sleeps in this scope, or does not sleep, and every other task sleeps where it did
pub record Moves (old new : Sleeping) (task : ℕ) (scope : Option ℕ) : Type 0 where
  pub changed : scope_in new task ≡ scope
  pub others : (other : ℕ) → other ≢ task → scope_in new other ≡ scope_in old other

-- each task sleeps where it did
abbrev pub SameScopes : Sleeping → Sleeping → Type 0
SameScopes old new = (task : ℕ) → scope_in new task ≡ scope_in old task

-- each scope in which a task sleeps keeps its effective deadline
abbrev pub KeepsSights : Sleeping → Sleeping → Type 0
KeepsSights old new = (task scope : ℕ) → scope_in new task ≡ Some scope → sight_of new scope ≡ sight_of old scope

-- the scope has this effective deadline, if a task sleeps in it, and every other scope keeps its own
pub record Sees (old new : Sleeping) (scope : ℕ) (sight : Option ℕ) : Type 0 where
  pub here : (task : ℕ) → scope_in new task ≡ Some scope → sight_of new scope ≡ sight
  pub others : (task other : ℕ) → other ≢ scope → scope_in new task ≡ Some other → sight_of new other ≡ sight_of old other

-- the scope in which a task sleeps has this effective deadline
pub record SeesFrom (s : Sleeping) (task tick : ℕ) : Type 0 where
  pub scope : ℕ
  pub sleeps : scope_in s task ≡ Some scope
  pub sight : sight_of s scope ≡ Some tick

-- the earliest tick from which a sleeper sees a cancellation, or `None` where none ever does
pub record IsFirst (s : Sleeping) (first : Option ℕ) : Type 0 where
  pub is_one : ForSome first (λ t. (task : ℕ) × SeesFrom s task t)
  pub least : (task t : ℕ) → SeesFrom s task t → IsSomeAnd first (λ u. u ≤ t)

-- no sleeper sees a cancellation by this tick, and nothing changed
pub record NoneSees (old new : Sleeping) (tick : ℕ) : Type 0 where
  pub all : (task t : ℕ) → SeesFrom old task t → tick < t
  pub scopes : SameScopes old new
  pub sights : KeepsSights old new

-- A sleeper that sees a cancellation by this tick was removed. Everything else stays the same.
pub record TakesSeen (old new : Sleeping) (task tick : ℕ) : Type 0 where
  pub from : ℕ
  pub sees : SeesFrom old task from
  pub come : from ≤ tick
  pub scopes : Moves old new task None
  pub sights : KeepsSights old new
