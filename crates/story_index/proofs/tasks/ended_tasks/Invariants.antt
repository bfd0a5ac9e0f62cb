use Rattle.std.proofs.Common.{◌≡◌, drop}
use Rattle.std.specs.Prelude.{◌||◌, map}
use Rattle.exceptions.specs.Exceptions as tree
use Rattle.story_index.specs.Seen.{event_in}
use Rattle.job_story.specs.Limit.{has_ended}
use Rattle.story_index.specs.Lasts.{is_among}
use Rattle.story_index.proofs.tasks.ended_tasks.Given as goal

abbrev pub invariant-events : goal.invariant-events
invariant-events l =
    (task : tree.Label) →
    (is_among l.ended task || has_ended task (map event_in (drop l.event-index l.events))) ≡ has_ended task (map event_in l.events)
