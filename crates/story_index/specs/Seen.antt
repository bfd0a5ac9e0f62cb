-- A borrowed event, as the definitions see it.
use Rattle.std.specs.Borrow.{Bor}
use Rattle.job_story.specs.Events as story_events
use Rattle.job_story.specs.Held.{event_of}
use Rattle.job_story.specs.declared.event.Event.{Event}

abbrev pub event_in : Bor Event → story_events.Event
event_in event = event_of event.now
