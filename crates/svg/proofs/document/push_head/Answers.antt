use Rattle.std.proofs.Common.{◌∙◌}
use Rattle.std.proofs.lemmas.Result.{on_ok_weaker}
use Rattle.svg.specs.Drawing.{style, definitions}
use Rattle.svg.proofs.document.push_head.Goals as goal

pub returns : goal.returns
returns c =
    on_ok_weaker c.push_definitions.result
    (λ h rest. h rest ∙ c.in_ok-push_style.ensures (definitions rest) ∙ c.in_ok-push_title.ensures (style (definitions rest)))
    c.push_definitions.ensures
