-- Moments, as `Clocks` counts them, and where a task is in time.
use Rattle.std.specs.Prelude.{ℕ, List, []}
use Rattle.exceptions.specs.Exceptions.{Label}
pub use Rattle.job_meaning.specs.Clocks.{clock_of, rounds_in_a_tick, tick_of, start_of, a_round_after, far, wakes_at, gives_up_at, due}

-- where a task is in time: a moment, and what it has cancelled itself in this moment
pub record Now : Type 0 where
  pub at : ℕ
  pub own : List Label

-- a task in a moment in which it has cancelled nothing
abbrev pub only_at : ℕ → Now
only_at m = record { at = m; own = [] }
