-- What the code keeps of the tasks of a story: those that have ended, and the last event of each.
use Rattle.std.specs.Prelude.{Bool, Option}
use Rattle.std.specs.Option.{option_map}
use Rattle.std.specs.Borrow.{Bor}
use Rattle.indexmap.specs.IndexMap.{IndexMap, get_by}
use Rattle.indexmap.specs.IndexSet.{IndexSet, contains_by}
use Rattle.exceptions.specs.Exceptions.{Label}
use Rattle.job_meaning.specs.Log.{same_label}
use Rattle.job_story.specs.Events as story_events
use Rattle.job_story.specs.declared.event.Event.{Event}
use Rattle.story_index.specs.Seen.{event_in}

-- whether a set of tasks contains this one
abbrev pub is_among : {S : Type 0} → IndexSet (Bor Label) S → Label → Bool
is_among tasks l = contains_by (λ k. same_label l k.now) tasks

-- the event of a task in a map
abbrev pub event_at : {S : Type 0} → IndexMap (Bor Label) (Bor Event) S → Label → Option (Bor Event)
event_at events l = get_by (λ k. same_label l k.now) events

-- a borrowed event, as the definitions see it, if there is one
abbrev pub seen_last : Option (Bor Event) → Option story_events.Event
seen_last event = option_map event_in event
