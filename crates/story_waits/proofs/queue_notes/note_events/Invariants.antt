use Rattle.std.proofs.Common.{◌≡◌, drop}
use Rattle.std.specs.Prelude.{map}
use Rattle.std.specs.Option.{option_or}
use Rattle.job_story.specs.Events as story_events
use Rattle.job_story.specs.Notes.{in_service, noted_in}
use Rattle.story_waits.specs.QueueNotes.{noted_at}
use Rattle.story_index.specs.Seen.{event_in}
use Rattle.story_waits.proofs.queue_notes.note_events.Given as goal

abbrev pub invariant-events : goal.invariant-events
invariant-events l =
    let walked = map event_in l.walked in
    (e : story_events.Event) → option_or (noted_at l.notes e) (noted_in walked (in_service walked) l.i (map event_in (drop l.i l.walked)) e)
    ≡ noted_in walked (in_service walked) 0 walked e
