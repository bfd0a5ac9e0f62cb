use Rattle.std.proofs.Common.{◌≡◌, ◌++◌, drop, map}
use Rattle.job_story.specs.Held.{event_of}
use Rattle.story_index.specs.Seen.{event_in}
use Rattle.story_index.specs.Until.{events_until}
use Rattle.story_index.proofs.until.events_until.Given as goal

abbrev pub invariant-events : goal.invariant-events
invariant-events l =
    map event_in l.shown.items ++ events_until l.clock l.until (map event_of (drop l.event-index l.events)) ≡ events_until l.clock l.until (map event_of l.events)
