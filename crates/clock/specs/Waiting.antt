-- What contracts see of the tasks that wait for events: for which event each task waits.
use Rattle.std.specs.Prelude.{◌≡◌, ◌≢◌, ℕ, List, Option, Some, None}
use Rattle.clock.specs.Sleeping.{scope_at}

-- the event for which a task waits, by the key of the task, or `None` where it waits for none
abbrev pub event_in : List (Option ℕ) → ℕ → Option ℕ
event_in waiters task = scope_at waiters task

-- the task now waits for this event, or for none, and every other task waits for what it did
pub record WaitsFor (old new : List (Option ℕ)) (task : ℕ) (event : Option ℕ) : Type 0 where
  pub changed : event_in new task ≡ event
  pub others : (other : ℕ) → other ≢ task → event_in new other ≡ event_in old other

-- each task waits for what it did
abbrev pub SameEvents : List (Option ℕ) → List (Option ℕ) → Type 0
SameEvents old new = (task : ℕ) → event_in new task ≡ event_in old task

-- no task waits for the event, and nothing changed
pub record NoneWaits (old new : List (Option ℕ)) (event : ℕ) : Type 0 where
  pub none : (task : ℕ) → event_in old task ≢ Some event
  pub same : SameEvents old new

-- A task that waited for the event was removed. Everything else stays the same.
pub record TakesWaiter (old new : List (Option ℕ)) (event task : ℕ) : Type 0 where
  pub waited : event_in old task ≡ Some event
  pub taken : WaitsFor old new task None
