use Rattle.std.proofs.Common.{◌≡◌, drop}
use Rattle.std.specs.Prelude.{map}
use Rattle.job_story.specs.Deadlock.{first_cycle}
use Rattle.job_story.specs.Limit.{running_in}
use Rattle.story_index.specs.Seen.{event_in}
use Rattle.story_waits.proofs.deadlock.first_cycle.Given as goal

abbrev pub invariant-events : goal.invariant-events
invariant-events l =
    let es = map event_in l.events in
    first_cycle es (running_in es (map event_in (drop l.event-index l.events))) ≡ first_cycle es (running_in es es)
