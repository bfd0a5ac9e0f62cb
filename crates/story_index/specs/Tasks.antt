-- The events from which the tasks are known.
use Rattle.std.specs.Prelude.{List, map}
use Rattle.job_story.specs.Events as story_events
use Rattle.story_index.specs.Seen.{event_in}
use Rattle.story_index.specs.declared.tasks.Tasks.{Tasks}

-- in order
abbrev pub sorted_in : Tasks → List story_events.Event
sorted_in tasks = map event_in tasks.lasts.events.now

-- in the order of the walk
abbrev pub walked_in : Tasks → List story_events.Event
walked_in tasks = map event_in tasks.walked.now
