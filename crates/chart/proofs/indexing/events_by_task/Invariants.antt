use Rattle.std.proofs.Common.{◌≡◌, ◌++◌, drop}
use Rattle.std.specs.Prelude.{map}
use Rattle.exceptions.specs.Exceptions as tree
use Rattle.story_index.specs.Seen.{event_in}
use Rattle.chart.specs.Bars.{of_task}
use Rattle.chart.specs.HeldBars.{events_at}
use Rattle.chart.proofs.indexing.events_by_task.Given as goal

abbrev pub invariant-events : goal.invariant-events
invariant-events l =
    (task : tree.Label) →
    events_at l.tasks task ++ of_task task (map event_in (drop l.event-index l.walked)) ≡ of_task task (map event_in l.walked)
