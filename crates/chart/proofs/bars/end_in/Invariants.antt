use Rattle.std.proofs.Common.{◌≡◌, drop}
use Rattle.std.specs.Prelude.{map}
use Rattle.story_index.specs.Seen.{event_in}
use Rattle.chart.specs.Bars.{end_in}
use Rattle.chart.proofs.bars.end_in.Given as goal

abbrev pub invariant-events : goal.invariant-events
invariant-events l = end_in (map event_in (drop l.event-index l.events)) ≡ end_in (map event_in l.events)
