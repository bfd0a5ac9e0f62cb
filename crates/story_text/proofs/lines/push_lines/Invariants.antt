use Rattle.std.proofs.Common.{◌≡◌, ◌++◌, drop}
use Rattle.std.specs.Prelude.{map, None}
use Rattle.story_index.specs.Seen.{event_in}
use Rattle.job_story.specs.Sentences.{lines_text}
use Rattle.story_text.specs.Known.{clock_in, events_in, cancelled_from_in, notes_held}
use Rattle.story_text.proofs.lines.push_lines.Given as goal

abbrev pub invariant-events : goal.invariant-events
invariant-events l =
    l.out.items
    ++ lines_text (clock_in l.known) (cancelled_from_in l.known) (notes_held l.known) (events_in l.known) l.width l.before (map event_in (drop l.event-index l.events))
    ≡ l.fn.out.items ++ lines_text (clock_in l.known) (cancelled_from_in l.known) (notes_held l.known) (events_in l.known) l.width None (map event_in l.events)
