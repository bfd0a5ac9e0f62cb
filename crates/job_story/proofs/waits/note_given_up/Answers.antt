use Rattle.std.proofs.Common.{ap}
use Rattle.exceptions.specs.Exceptions.{Label}
use Rattle.job_story.specs.Story.{waiting_for, is_cancelled}
use Rattle.job_story.specs.Tell.{seer, story_of_one}
use Rattle.job_story.specs.Heres.{scopes_of}
use Rattle.job_story.proofs.Adding.{adds_like, adds_then}
use Rattle.job_story.proofs.waits.note_given_up.Goals as goal

pub returns : goal.returns
returns c =
    let here = c.args.here in
    adds_then _ _ _ _ _ _ c.in_ok-note_wait.ensures
    (adds_like _ _ _ _ _ c.in_ok-note_cancelled.ensures
    (ap (λ (l : Label). story_of_one c.args.gives_up (is_cancelled (seer (scopes_of here) c.args.from) (waiting_for l c.args.moment) here.in_cleanup))
    c.in_ok-copy.ensures))
