-- The bars of the code, as the definitions see them.
use Rattle.std.specs.Prelude.{Bool, false, Option, Some, None, List, [], map}
use Rattle.std.specs.Borrow.{Bor}
use Rattle.std.specs.Option.{option_map}
use Rattle.std.specs.Global.{Vec}
use Rattle.indexmap.specs.IndexMap.{IndexMap, get_by}
use Rattle.exceptions.specs.Exceptions.{Label}
use Rattle.job_meaning.specs.Log.{same_label}
use Rattle.job_story.specs.Events as story_events
use Rattle.job_story.specs.declared.event.Event.{Event}
use Rattle.story_index.specs.Seen.{event_in}
use Rattle.chart.specs.Bars as bars
use Rattle.chart.specs.declared.bar.Bar.{Bar}

-- a borrowed event, if there is one
abbrev pub event_seen : Option (Bor Event) → Option story_events.Event
event_seen e = option_map event_in e

abbrev pub bar_of : Bar → bars.Bar
bar_of bar =
    record { first = event_in bar.first; last = event_seen bar.last; own = map event_in bar.own.now; cancelled = bar.cancelled }

-- the events of a task in a map, or no events where it has no entry
abbrev pub items_of : Option (Vec (Bor Event)) → List (Bor Event)
items_of None = []
items_of (Some events) = events.items

abbrev pub events_at : {S : Type 0} → IndexMap (Bor Label) (Vec (Bor Event)) S → Label → List story_events.Event
events_at map_ l = map event_in (items_of (get_by (λ k. same_label l k.now) map_))

-- the event of a label in a map
abbrev pub event_at : {S : Type 0} → IndexMap (Bor Label) (Bor Event) S → Label → Option story_events.Event
event_at map_ l = event_seen (get_by (λ k. same_label l k.now) map_)

-- whether a borrowed label is this one
abbrev pub is_label : Label → Option (Bor Label) → Bool
is_label l None = false
is_label l (Some label) = same_label l label.now
