-- The events of a story as far as a limit shows them.
use Rattle.std.specs.Prelude.{ℕ, Bool, true, nat_le, Option, Some, None, List}
use Rattle.job_meaning.specs.Moments.{tick_of}
use Rattle.job_meaning.specs.declared.clock.Clock.{Clock}
use Rattle.job_story.specs.Events.{Event}
use Rattle.job_story.specs.Limit.{by_limit}

-- whether a moment is not later than the last tick, where there is one
abbrev pub is_until : Clock → Option ℕ → ℕ → Bool
is_until clock None m = true
is_until clock (Some last) m = nat_le (tick_of clock m) last

-- the events up to a tick, or all of them
abbrev pub events_until : Clock → Option ℕ → List Event → List Event
events_until clock None es = es
events_until clock (Some t) es = by_limit clock t es
