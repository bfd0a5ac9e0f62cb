use Rattle.std.proofs.Common.{refl, ap, ◌∙◌, List}
use Rattle.std.specs.Prelude.{map}
use Rattle.std.specs.Option.{option_map}
use Rattle.exceptions.specs.Exceptions.{Exc}
use Rattle.exceptions.specs.Held.{exc_of}
use Rattle.job_meaning.specs.Walk.{with_exc}
use Rattle.job_story.specs.Story.{Tale}
use Rattle.job_story.proofs.Teller.{is_child}
use Rattle.job_story.proofs.stretch.Stretch.into_child.Goals as goal

pub returns : goal.returns
returns c = λ label home scene begins own (a : Tale) h.
    is_child c.args.self _ label home scene begins _ own a h refl refl refl
    (c.in_ok-open_excs.ensures ∙ ap (λ (es : List Exc). with_exc (option_map exc_of c.args.self.exc) es) (ap
    (map exc_of) c.new.ensures.items))
