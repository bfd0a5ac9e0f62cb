-- How the sleepers are stored. No public clause cites this module.
use Rattle.std.specs.Prelude.{◌≡◌, ◌≢◌, ℕ, ◌==◌, if◌then◌else◌, List, [], Option, Some, None, slice_index_or}
use Rattle.std.specs.List.{slice_get}
use Rattle.std.specs.declared.vec.Vec.{Vec}
use Rattle.cancel_scopes.specs.Kept.{IsPlaced}
use Rattle.clock.specs.Ticks.{tick_in}
use Rattle.clock.specs.Sleeping.{scope_at}
use Rattle.clock.specs.declared.sleep_slots.SleepSlot.{SleepSlot}

-- no task sleeps
abbrev pub HasNone : List (Option ℕ) → Type 0
HasNone scopes = (task : ℕ) → scope_at scopes task ≡ None

-- no task sleeps directly in the scope
abbrev pub IsEmpty : List (Option ℕ) → ℕ → Type 0
IsEmpty scopes scope = (task : ℕ) → scope_at scopes task ≢ Some scope

-- each task sleeps where it did
abbrev pub IsSame : List (Option ℕ) → List (Option ℕ) → Type 0
IsSame old new = (task : ℕ) → scope_at new task ≡ scope_at old task

-- the task now sleeps in this scope, or does not sleep, and every other task sleeps where it did
pub record Puts (old new : List (Option ℕ)) (task : ℕ) (scope : Option ℕ) : Type 0 where
  pub changed : scope_at new task ≡ scope
  pub others : (other : ℕ) → other ≢ task → scope_at new other ≡ scope_at old other

-- a task sleeps in each scope that has a tick
abbrev pub AllSleptIn : List (Option ℕ) → List (Option ℕ) → Type 0
AllSleptIn scopes sights = (scope tick : ℕ) → tick_in sights scope ≡ Some tick → (task : ℕ) × (scope_at scopes task ≡ Some scope)

abbrev pub scope_of : Option SleepSlot → Option ℕ
scope_of None = None
scope_of (Some sleep_slot) = Some sleep_slot.scope

-- the slot of a task, if it sleeps
abbrev pub sleep_slot_at : List (Option SleepSlot) → ℕ → Option SleepSlot
sleep_slot_at sleep_slots task = slice_index_or sleep_slots task None

-- its index among the tasks that sleep in this scope, if it sleeps there
abbrev pub index_under : ℕ → Option SleepSlot → Option ℕ
index_under scope None = None
index_under scope (Some sleep_slot) = if sleep_slot.scope == scope then Some sleep_slot.index else None

abbrev pub tasks_of : {Z : Type 0} → Option (Vec ℕ Z) → List ℕ
tasks_of None = []
tasks_of (Some tasks) = tasks.items

-- the tasks that sleep directly in a scope
abbrev pub tasks_at : {Z : Type 0} → List (Vec ℕ Z) → ℕ → List ℕ
tasks_at lists scope = tasks_of (slice_get lists scope)

-- the list of each scope has exactly the tasks with indices in it
pub record AllPlaced {Z : Type 0} (sleep_slots : List (Option SleepSlot)) (lists : List (Vec ℕ Z)) : Type 0 where
  pub placed : (scope : ℕ) → IsPlaced (λ task. index_under scope (sleep_slot_at sleep_slots task)) (tasks_at lists scope)

-- each task keeps its slot
abbrev pub SameSleepSlots : List (Option SleepSlot) → List (Option SleepSlot) → Type 0
SameSleepSlots old new = (task : ℕ) → sleep_slot_at new task ≡ sleep_slot_at old task

-- each scope keeps its list
abbrev pub SameTasks : {Z : Type 0} → List (Vec ℕ Z) → List (Vec ℕ Z) → Type 0
SameTasks old new = (scope : ℕ) → tasks_at new scope ≡ tasks_at old scope
