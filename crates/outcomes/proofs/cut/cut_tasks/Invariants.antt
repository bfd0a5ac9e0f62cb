use Rattle.std.proofs.Common.{◌≡◌, drop}
use Rattle.std.specs.Prelude.{map}
use Rattle.story_index.specs.Seen.{event_in}
use Rattle.outcomes.specs.Notes.{cut_after, cut_in}
use Rattle.outcomes.specs.Labels.{labels_in}
use Rattle.outcomes.proofs.cut.cut_tasks.Given as goal

abbrev pub invariant-events : goal.invariant-events
invariant-events l =
    cut_after (labels_in l.tasks.keys) (map event_in (drop l.event-index l.events)) ≡ cut_in (map event_in l.events)
