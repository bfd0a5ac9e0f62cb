use Rattle.std.proofs.Common.{◌∙◌, ◌+◌, ◌*◌}
use Rattle.std.proofs.lemmas.Result.{on_ok_weaker}
use Rattle.svg.specs.declared.layout.TheConstants.{ROW}
use Rattle.svg.specs.Legend.{cancelled_legend, marks_legend}
use Rattle.svg.proofs.legend.push_legend.Goals as goal

pub returns : goal.returns
returns c =
    let y = c.args.y in
    on_ok_weaker c.push_marks.result
    (λ h rest.
    let third = marks_legend (y + ROW * 2) rest in
    h rest ∙ c.in_ok-push_cancelled.ensures third ∙ c.in_ok-push_bars.ensures (cancelled_legend (y + ROW) third))
    c.push_marks.ensures
