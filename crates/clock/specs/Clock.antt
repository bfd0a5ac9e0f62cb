-- What contracts see of the clock: its tick, its limit, and a map from the keys of tasks to the ticks at which their
-- timers are due. No contract says how the clock stores that map.
use Rattle.std.specs.Prelude.{◌≡◌, ◌≢◌, ◌⊎◌, ℕ, ◌<◌, ◌≤◌, List, Option, Some, None}
use Rattle.clock.specs.Ticks.{tick_in}

pub record Clock : Type 0 where
  pub tick : ℕ
  pub limit : ℕ
  pub timers : List (Option ℕ)

-- the current tick of the clock
abbrev pub now_of : Clock → ℕ
now_of c = c.tick

-- the last tick that the clock jumps to
abbrev pub limit_of : Clock → ℕ
limit_of c = c.limit

-- the tick at which the timer of a task is due, if it has one
abbrev pub due_of : Clock → ℕ → Option ℕ
due_of c task = tick_in c.timers task

-- at least one task has a timer
abbrev pub HasTimer : Clock → Type 0
HasTimer c = (task : ℕ) × (due : ℕ) × (due_of c task ≡ Some due)

-- every timer is due later than this tick
abbrev pub AllLater : Clock → ℕ → Type 0
AllLater c tick = (task due : ℕ) → due_of c task ≡ Some due → tick < due

-- the clock's tick and limit stay the same
pub record SameTime (old new : Clock) : Type 0 where
  pub now : now_of new ≡ now_of old
  pub limit : limit_of new ≡ limit_of old

-- nothing changed: the tick, the limit and every task's timer stay the same
pub record IsUnchanged (old new : Clock) : Type 0 where
  pub time : SameTime old new
  pub timers : (task : ℕ) → due_of new task ≡ due_of old task

-- the task now has this timer, or none, and every other task keeps its own
pub record Updates (old new : Clock) (task : ℕ) (timer : Option ℕ) : Type 0 where
  pub changed : due_of new task ≡ timer
  pub others : (other : ℕ) → other ≢ task → due_of new other ≡ due_of old other

-- t is the next tick: the earliest of the ticks at which timers are due and of the tick of the next cancellation
pub record IsNext (c : Clock) (next_cancel : Option ℕ) (t : ℕ) : Type 0 where
  pub is_one : (next_cancel ≡ Some t) ⊎ ((task : ℕ) × (due_of c task ≡ Some t))
  pub by_cancel : (cancel : ℕ) → next_cancel ≡ Some cancel → t ≤ cancel
  pub by_timers : (task due : ℕ) → due_of c task ≡ Some due → t ≤ due

-- The clock jumped to t, which is the next tick and at most the limit. The timers and the limit stay the same.
pub record JumpsTo (old : Clock) (next_cancel : Option ℕ) (t : ℕ) (new : Clock) : Type 0 where
  pub next : IsNext old next_cancel t
  pub within : t ≤ limit_of old
  pub now : now_of new ≡ t
  pub limit : limit_of new ≡ limit_of old
  pub timers : (task : ℕ) → due_of new task ≡ due_of old task

-- The next tick is later than the clock's limit. Nothing changed.
pub record MeetsLimit (old : Clock) (next_cancel : Option ℕ) (new : Clock) : Type 0 where
  pub next : ℕ
  pub is_next : IsNext old next_cancel next
  pub late : limit_of old < next
  pub unchanged : IsUnchanged old new

-- A task that was due was taken: no other task that is due has a lesser key. Its timer was removed.
pub record TakesDue (old : Clock) (task : ℕ) (new : Clock) : Type 0 where
  pub due : ℕ
  pub had : due_of old task ≡ Some due
  pub is_due : due ≤ now_of old
  pub first : (other tick : ℕ) → due_of old other ≡ Some tick → tick ≤ now_of old → task ≤ other
  pub timers : Updates old new task None
  pub time : SameTime old new

-- no task is due, and nothing changed
pub record NoneDue (old new : Clock) : Type 0 where
  pub all_later : AllLater old (now_of old)
  pub unchanged : IsUnchanged old new
