use Rattle.std.proofs.Common.{ap, ◌∙◌}
use Rattle.exceptions.specs.Exceptions.{Exc}
use Rattle.exceptions.specs.Held.{exc_of}
use Rattle.job_story.specs.Story.{replaces}
use Rattle.job_story.specs.Tell.{story_of_one}
use Rattle.job_story.proofs.Adding.{adds_nothing, adds_like}
use Rattle.job_story.proofs.notes.note_replaced.Goals as goal

pub returns-in_default : goal.returns-in_default
returns-in_default c = rw c.in_default.is (adds_nothing _ _)

pub returns-in_default-fresh : goal.returns-in_default-fresh
returns-in_default-fresh c = rw (c.in-Some.is, c.in_default-fresh.is) (adds_nothing _ _)

pub returns : goal.returns
returns c =
    rw (c.in-Some.is, c.in-Some-fresh.is) (adds_like _ _ _ _ _ c.in_ok-note.ensures
    (ap (λ (x : Exc). story_of_one c.args.moment (replaces x (exc_of c.in_ok-fresh.fresh.value))) c.in_ok-lost.ensures
    ∙ ap (λ (x : Exc). story_of_one c.args.moment (replaces (exc_of c.in-Some.lost) x)) c.in_ok-fresh.ensures))
