use Rattle.std.proofs.Common.{refl, ap, ◌∙◌, Option}
use Rattle.std.specs.Option.{option_map}
use Rattle.exceptions.specs.Exceptions.{Exc}
use Rattle.exceptions.specs.Held.{exc_of}
use Rattle.job_meaning.specs.Walk.{outcome_after}
use Rattle.job_story.specs.Story.{Tale}
use Rattle.job_story.specs.Tell.{and_tale, with_exc_of, cleaned_by}
use Rattle.job_story.proofs.Teller.{is_outcome, stretch_like}
use Rattle.job_story.proofs.stretch.Stretch.join_cleanup.Goals as goal

pub returns : goal.returns
returns c = λ (a : Tale) (b : Tale) h k.
    let e = outcome_after a.exc b.exc in
    stretch_like _ (and_tale a (with_exc_of e b)) (cleaned_by a b)
    (c.in_ok-stretch.ensures a (with_exc_of e b) h
    (is_outcome c.args.next _ b e k refl
    (c.outcome_after-exc.ensures
    ∙ (ap (λ (o : Option Exc). outcome_after o (option_map exc_of c.args.next.exc)) (c.in_ok-before.ensures ∙ h.exc)
    ∙ ap (λ (o : Option Exc). outcome_after a.exc o) k.exc))))
    refl refl refl
