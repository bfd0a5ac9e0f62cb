use Rattle.std.proofs.Common.{ap, ◌∙◌, Option}
use Rattle.exceptions.specs.Exceptions.{Label}
use Rattle.job_story.specs.Held.{during_of}
use Rattle.job_story.specs.Story.{is_cancelled}
use Rattle.job_story.specs.Tell.{story_of_one}
use Rattle.job_story.proofs.Adding.{adds_like}
use Rattle.job_story.proofs.notes.note_cancelled.Goals as goal

pub returns : goal.returns
returns c =
    adds_like _ _ _ _ _ c.in_ok-note.ensures
    (ap (λ (o : Option Label). story_of_one c.args.moment (is_cancelled o (during_of c.args.during) c.args.here.in_cleanup))
    (c.in_ok-by.ensures ∙ c.seer.ensures))
