use Rattle.std.proofs.Common.{ℕ, Option, ap, ◌∙◌}
use Rattle.exceptions.specs.Exceptions.{Label, Exc}
use Rattle.job_story.specs.Held.{unboxed_exc}
use Rattle.job_story.specs.Story.{Tale, waits}
use Rattle.job_story.specs.Tell.{story_of_one}
use Rattle.job_story.proofs.Adding.{adds_like}
use Rattle.job_story.proofs.Blocks.{tells_wait}
use Rattle.job_story.proofs.Slept.{none_own}
use Rattle.job_story.proofs.notes.wait.Goals as goal

pub returns : goal.returns
returns c = λ start (a : Tale) h.
    tells_wait c.args.here.clock _ start _ _ c.args.stretch _ c.args.label.now a h
    (adds_like _ _ _ _ _ c.in_ok-note.ensures
    (ap (λ (n : ℕ). story_of_one n (waits c.in_ok-nursery.nursery (unboxed_exc c.in_ok-exc.exc))) c.end.ensures
    ∙ (ap (λ (l : Label). story_of_one c.args.stretch.end (waits l (unboxed_exc c.in_ok-exc.exc))) c.in_ok-nursery.ensures
    ∙ ap (λ (o : Option Exc). story_of_one c.args.stretch.end (waits c.args.label.now o)) c.in_ok-exc.ensures)))
    (none_own _ c.clear.ensures.items)
    c.in_ok-stretch.ensures
