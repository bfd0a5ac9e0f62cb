use Rattle.std.proofs.Common.{refl, ap, ◌∙◌, Option}
use Rattle.std.specs.Option.{option_map}
use Rattle.exceptions.specs.Exceptions.{Exc}
use Rattle.exceptions.specs.Held.{exc_of}
use Rattle.job_meaning.specs.Walk.{handler_exc}
use Rattle.job_story.specs.Story.{Tale}
use Rattle.job_story.specs.Tell.{and_tale, with_exc_of, handled_by}
use Rattle.job_story.proofs.Teller.{is_outcome, stretch_like}
use Rattle.job_story.proofs.stretch.Stretch.join_handler.Goals as goal

pub returns : goal.returns
returns c = λ matched (a : Tale) (b : Tale) h k.
    let rest = option_map exc_of c.args.rest in
    let e = handler_exc b.exc rest in
    stretch_like _ (and_tale a (with_exc_of e b)) (handled_by matched rest a b)
    (c.in_ok-stretch.ensures a (with_exc_of e b) h
    (is_outcome c.args.next _ b e k refl (c.in_ok-exc.ensures ∙ ap (λ (o : Option Exc). handler_exc o rest) k.exc)))
    refl refl refl
