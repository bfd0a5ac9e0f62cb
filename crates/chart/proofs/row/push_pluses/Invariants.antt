use Rattle.std.proofs.Common.{◌≡◌, ◌++◌, drop}
use Rattle.std.specs.Prelude.{map}
use Rattle.story_index.specs.Seen.{event_in}
use Rattle.chart.specs.Marks.{is_plus, ticks_where}
use Rattle.chart.proofs.row.push_pluses.Given as goal

abbrev pub invariant-events : goal.invariant-events
invariant-events l =
    l.ticks.items ++ ticks_where l.clock is_plus (map event_in (drop l.event-index l.events))
    ≡ l.fn.ticks.items ++ ticks_where l.clock is_plus (map event_in l.events)
