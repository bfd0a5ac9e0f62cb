use Rattle.std.proofs.Common.{◌≡◌, ◌++◌, map, drop, nat_lt}
use Rattle.serde_json.specs.View.{items_of}
use Rattle.serde_json.specs.Written.{compact_text, items_text}
use Rattle.story_index.specs.Seen.{event_in}
use Rattle.json_story.specs.Values.{list_of}
use Rattle.json_story.specs.Events.{event_json}
use Rattle.json_story.specs.Known.{clock_in, events_in, cancelled_from_in, notes_held}
use Rattle.json_story.proofs.event.push_events.Given as goal

abbrev pub invariant-events : goal.invariant-events
invariant-events l =
    l.out.items
    ++ items_text (nat_lt 0 l.i) (items_of
    (map (event_json (clock_in l.known) (cancelled_from_in l.known) (notes_held l.known) (events_in l.known)) (map event_in (drop l.i l.events))))
    ≡ l.fn.out.items
    ++ compact_text (list_of (map (event_json (clock_in l.known) (cancelled_from_in l.known) (notes_held l.known) (events_in l.known)) (map event_in l.events)))
