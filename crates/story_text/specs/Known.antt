-- What is known of a story.
use Rattle.std.specs.Prelude.{List, map}
use Rattle.job_meaning.specs.Log.{Table}
use Rattle.job_story.specs.Events as story_events
use Rattle.job_story.specs.CancelledFrom.{table_in}
use Rattle.job_meaning.specs.declared.clock.Clock.{Clock}
use Rattle.job_story.specs.Notes.{Notes}
use Rattle.story_index.specs.Seen.{event_in}
use Rattle.story_waits.specs.QueueNotes.{held_notes}
use Rattle.story_text.specs.declared.known.Known.{Known}

-- how its moments count
abbrev pub clock_in : Known → Clock
clock_in known = known.clock

-- its events
abbrev pub events_in : Known → List story_events.Event
events_in known = map event_in known.events.now

-- the moment from which each label is cancelled, or set
abbrev pub cancelled_from_in : Known → Table
cancelled_from_in known = table_in known.cancelled_from.now

-- what the events say of one another
abbrev pub notes_held : Known → Notes
notes_held known = held_notes known.notes.now
