use Rattle.job_story.proofs.notes.note.Goals as goal

pub returns : goal.returns
returns c = record { added = c.in_ok-add.ensures }
