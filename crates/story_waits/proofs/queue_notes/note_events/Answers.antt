use Rattle.std.proofs.Common.{map}
use Rattle.job_story.specs.Notes.{in_service}
use Rattle.story_waits.specs.QueueNotes.{noted_at}
use Rattle.story_index.specs.Seen.{event_in}
use Rattle.story_waits.proofs.NoteLemmas.{noted_more}
use Rattle.story_waits.proofs.queue_notes.note_events.Goals as goal

pub events-preserved : goal.events-preserved
events-preserved c =
    let walked = map event_in c.args.walked.now in
    noted_more walked (in_service walked) c.events.i c.args.walked.now c.index-walked-i.result (noted_at c.events.notes)
    (noted_at c.note_event.new.notes) _ c.events-test.true c.index-walked-i.is (c.in_ok-note_event.ensures walked c.requires) c.events.invariant
