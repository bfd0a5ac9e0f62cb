-- Moments. In formats 1 and 2 a moment is a tick. In format 3 a tick has rounds, which are passes of Trio's run loop, and a
-- moment is a round of a tick.
use Rattle.std.specs.Prelude.{ℕ, zero, suc, ◌+◌, ◌*◌, ◌/◌, min, max, Option, Some, None}
use Rattle.job_tree.specs.declared.deadline.Deadline.{Deadline}
use Rattle.job_tree.specs.declared.format.Format.{Format}
use Rattle.job_tree.specs.declared.format.Format.TheVariants.{One, Two, Three}
use Rattle.job_tree.specs.declared.deadline.Deadline.TheVariants.{Never, After, At}
use Rattle.job_meaning.specs.declared.clock.Clock.{Clock}
use Rattle.job_meaning.specs.declared.clock.Clock.TheVariants.{ByTicks, ByRounds}

abbrev pub clock_of : Format → Clock
clock_of One = ByTicks
clock_of Two = ByTicks
clock_of Three = ByRounds

-- more rounds than a tick of any job has
abbrev pub rounds_in_a_tick : ℕ
rounds_in_a_tick = 2097152

-- the tick of a moment
abbrev pub tick_of : Clock → ℕ → ℕ
tick_of ByTicks m = m
tick_of ByRounds m = m / rounds_in_a_tick

-- the first moment of a tick, in which deadlines and timers act
abbrev pub start_of : Clock → ℕ → ℕ
start_of ByTicks t = t
start_of ByRounds t = t * rounds_in_a_tick

-- The moment after a round for the others: a child begins there, a checkpoint ends there, and a nursery is left there.
abbrev pub a_round_after : Clock → ℕ → ℕ
a_round_after ByTicks m = m
a_round_after ByRounds m = m + 1

-- a tick that no limit reaches, at which `forever` ends
abbrev pub far : ℕ
far = 1099511627776

-- The end of a sleep of n ticks, where a sleep of none is a checkpoint. By rounds, no sleep lasts beyond the start of tick `far`.
abbrev pub wakes_at : Clock → ℕ → ℕ → ℕ
wakes_at ByTicks n m = m + n
wakes_at ByRounds zero m = m + 1
wakes_at ByRounds (suc n) m = max (m + 1) (start_of ByRounds (min far (tick_of ByRounds m + suc n)))

-- The end of a sleep of n ticks in which a cancellation is seen at once: a cancelled checkpoint takes two rounds, as in Trio.
abbrev pub gives_up_at : Clock → ℕ → ℕ → ℕ
gives_up_at ByTicks n m = m
gives_up_at ByRounds zero m = m + 2
gives_up_at ByRounds (suc n) m = m + 1

-- the moment of a deadline for a block that is entered in moment m
abbrev pub due : Clock → Deadline → ℕ → Option ℕ
due clock Never m = None
due clock (After n) m = Some (start_of clock (tick_of clock m + n))
due clock (At n) m = Some (start_of clock n)
