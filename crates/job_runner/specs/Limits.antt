-- How far the clock of a run goes.
use Rattle.std.specs.Prelude.{ℕ, ◌+◌, ◌*◌}
use Rattle.job_meaning.specs.declared.clock.Clock.{Clock}
use Rattle.job_meaning.specs.declared.clock.Clock.TheVariants.{ByTicks, ByRounds}
use Rattle.job_meaning.specs.Clocks.{far}
use Rattle.job_meaning.specs.declared.limits.TheConstants.{LAST_TICK}

-- the last tick to which a run may go: no job ends later
abbrev pub last_tick : Clock → ℕ
last_tick ByTicks = LAST_TICK
last_tick ByRounds = far

-- the last moment of a tick
abbrev pub last_of : Clock → ℕ → ℕ
last_of ByTicks t = t
last_of ByRounds t = t * 2097152 + 2097151
