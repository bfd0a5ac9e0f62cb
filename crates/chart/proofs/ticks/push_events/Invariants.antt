use Rattle.std.proofs.Common.{◌≡◌, ◌++◌, [], drop}
use Rattle.std.specs.Prelude.{map}
use Rattle.story_index.specs.Seen.{event_in}
use Rattle.chart.specs.Ticks.{ticks_of_events}
use Rattle.chart.proofs.ticks.push_events.Given as goal

abbrev pub invariant-events : goal.invariant-events
invariant-events l =
    l.ticks.items ++ ticks_of_events l.clock (map event_in (drop l.event-index l.events)) []
    ≡ l.fn.ticks.items ++ ticks_of_events l.clock (map event_in l.events) []
