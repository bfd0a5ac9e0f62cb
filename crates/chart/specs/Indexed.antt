-- The events that are indexed.
use Rattle.std.specs.Prelude.{List, map}
use Rattle.job_story.specs.Events as story_events
use Rattle.story_index.specs.Seen.{event_in}
use Rattle.chart.specs.declared.index.StoryIndex.{StoryIndex}

-- the events, in the order of the walk
abbrev pub walked_in : StoryIndex → List story_events.Event
walked_in index = map event_in index.walked.now
