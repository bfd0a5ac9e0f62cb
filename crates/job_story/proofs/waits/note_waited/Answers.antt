use Rattle.job_story.proofs.Adding.{adds_then}
use Rattle.job_story.proofs.waits.note_waited.Goals as goal

pub returns : goal.returns
returns c = adds_then _ _ _ _ _ _ c.in_ok-note_wait.ensures c.in_ok-note_set.ensures
