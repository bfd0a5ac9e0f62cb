use Rattle.std.proofs.Common.{◌≡◌, drop}
use Rattle.std.specs.Prelude.{map}
use Rattle.std.specs.Option.{option_or}
use Rattle.exceptions.specs.Exceptions as tree
use Rattle.story_index.specs.Seen.{event_in}
use Rattle.chart.specs.Bars.{left_in}
use Rattle.chart.specs.HeldBars.{event_at}
use Rattle.chart.proofs.indexing.leavings.Given as goal

abbrev pub invariant-events : goal.invariant-events
invariant-events l =
    (label : tree.Label) →
    option_or (event_at l.left label) (left_in label (map event_in (drop l.event-index l.walked))) ≡ left_in label (map event_in l.walked)
