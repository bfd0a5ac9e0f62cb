use Rattle.std.proofs.Common.{◌∙◌, ◌+◌, ◌*◌}
use Rattle.std.specs.Prelude.{codes}
use Rattle.std.proofs.lemmas.Result.{on_ok_weaker}
use Rattle.svg.specs.declared.layout.TheConstants.{LEFT, SAMPLE}
use Rattle.svg.specs.Legend.{mark_sample, arrow_sample}
use Rattle.svg.proofs.legend.push_marks.Goals as goal

pub returns : goal.returns
returns c =
    let y = c.args.y in
    on_ok_weaker c.push_arrow_sample.result
    (λ h rest.
    let third = arrow_sample (LEFT + SAMPLE * 2) y (codes "cancels, or wakes") rest in
    let second = mark_sample (LEFT + SAMPLE) y (codes "#deadline") (codes "own deadline") third in
    h rest ∙ c.in_ok-push_mark_sample.ensures third ∙ c.in_ok-push_dot_sample.ensures second)
    c.push_arrow_sample.ensures
