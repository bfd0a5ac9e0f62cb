use Rattle.std.proofs.Common.{ap}
use Rattle.exceptions.specs.Exceptions.{Label}
use Rattle.job_story.specs.Story.{was_set}
use Rattle.job_story.specs.Tell.{story_of_one}
use Rattle.job_story.proofs.Adding.{adds_like}
use Rattle.job_story.proofs.waits.note_set.Goals as goal

pub returns : goal.returns
returns c =
    adds_like _ _ _ _ _ c.in_ok-note.ensures (ap (λ (l : Label). story_of_one c.args.moment (was_set l)) c.in_ok-event.ensures)
