-- The ticks at which something happens in a chart.
use Rattle.std.specs.Prelude.{ℕ, Some, None, List, [], ◌∷◌}
use Rattle.cancel_scopes.specs.Sight.{Tick}
use Rattle.job_meaning.specs.Moments.{tick_of}
use Rattle.job_meaning.specs.declared.clock.Clock.{Clock}
use Rattle.job_story.specs.Events.{Event}

abbrev pub if_tick : Tick → List ℕ → List ℕ
if_tick None ts = ts
if_tick (Some t) ts = t ∷ ts

abbrev pub ticks_of_events : Clock → List Event → List ℕ → List ℕ
ticks_of_events clock [] ts = ts
ticks_of_events clock (e ∷ es) ts = tick_of clock e.tick ∷ ticks_of_events clock es ts

-- the ticks of the events, and the limit at which a story is cut off
abbrev pub all_ticks : Clock → List Event → Tick → List ℕ
all_ticks clock es until = ticks_of_events clock es (if_tick until [])
