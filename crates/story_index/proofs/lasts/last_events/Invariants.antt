use Rattle.std.proofs.Common.{◌≡◌, drop}
use Rattle.std.specs.Prelude.{None, map}
use Rattle.exceptions.specs.Exceptions as tree
use Rattle.story_index.specs.Seen.{event_in}
use Rattle.story_index.specs.Lasts.{event_at}
use Rattle.job_story.specs.Limit.{last_event}
use Rattle.story_index.specs.Lasts.{seen_last}
use Rattle.story_index.proofs.lasts.last_events.Given as goal

abbrev pub invariant-events : goal.invariant-events
invariant-events l =
    (task : tree.Label) →
    last_event task (map event_in (drop l.event-index l.events)) (seen_last (event_at l.lasts task)) ≡ last_event task (map event_in l.events) None
