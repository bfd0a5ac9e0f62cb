use Rattle.std.proofs.Common.{◌≡◌, drop}
use Rattle.std.specs.Prelude.{None, map}
use Rattle.exceptions.specs.Exceptions as tree
use Rattle.job_story.specs.Deadlock.{holder_by}
use Rattle.story_waits.specs.Deadlock.{holder_at}
use Rattle.story_index.specs.Seen.{event_in}
use Rattle.story_waits.proofs.deadlock.holders_of.Given as goal

abbrev pub invariant-events : goal.invariant-events
invariant-events l =
    (limiter : tree.Label) →
    holder_by limiter (holder_at l.holders limiter) (map event_in (drop l.event-index l.events)) ≡ holder_by limiter None (map event_in l.events)
