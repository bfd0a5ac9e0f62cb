-- Up to which moment a walk may lead, in numbers of the clock.
use Rattle.std.specs.Prelude.{ℕ, max}
use Rattle.job_meaning.specs.declared.clock.Clock.{Clock}
use Rattle.job_meaning.specs.declared.clock.Clock.TheVariants.{ByTicks as by_ticks, ByRounds as by_rounds}

-- By rounds, the start of tick `far`, beyond which no sleep lasts. By ticks, where each sleep lasts as long as it is, 0.
abbrev pub base : Clock → ℕ
base by_ticks = 0
base by_rounds = 2305843009213693952

-- the later of a moment and the base
abbrev pub reach : Clock → ℕ → ℕ
reach clock m = max m (base clock)

-- How many moments beyond the reach a step instance ends at most. By ticks, it is as long as `forever`, which is two to the 40. By
-- rounds, a checkpoint that is cancelled takes two.
abbrev pub span : Clock → ℕ
span by_ticks = 1099511627776
span by_rounds = 2
