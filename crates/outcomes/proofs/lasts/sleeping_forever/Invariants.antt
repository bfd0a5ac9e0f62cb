use Rattle.std.proofs.Common.{◌≡◌, ◌++◌, drop}
use Rattle.std.specs.Prelude.{map}
use Rattle.story_index.specs.Seen.{event_in}
use Rattle.outcomes.specs.Notes.{sleeping_among, sleeping_in}
use Rattle.outcomes.specs.Labels.{labels_in}
use Rattle.outcomes.proofs.lasts.sleeping_forever.Given as goal

abbrev pub invariant-walked : goal.invariant-walked
invariant-walked l =
    labels_in l.tasks.items ++ sleeping_among (map event_in l.walked) (map event_in (drop l.event-index l.walked))
    ≡ sleeping_in (map event_in l.walked)
