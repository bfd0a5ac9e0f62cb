-- The notes of the code, as the definitions see them.
use Rattle.job_story.specs.Notes as notes
use Rattle.story_waits.specs.declared.note.Note.{Note}
use Rattle.story_waits.specs.declared.note.Note.TheVariants.{AllInUse, NoRoom, NothingThere, GivenBackBy, SentBy, ClosedBy}

abbrev pub note_in : Note → notes.Note
note_in (AllInUse tokens place) = notes.all_in_use tokens place
note_in (NoRoom place) = notes.no_room place
note_in (NothingThere place) = notes.nothing_there place
note_in (GivenBackBy task) = notes.given_back_by task.now
note_in (SentBy task) = notes.sent_by task.now
note_in (ClosedBy task) = notes.closed_by task.now
