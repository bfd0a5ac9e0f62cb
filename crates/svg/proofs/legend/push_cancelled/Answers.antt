use Rattle.std.proofs.Common.{◌∙◌, ◌+◌, ◌*◌}
use Rattle.std.specs.Prelude.{codes}
use Rattle.std.proofs.lemmas.Result.{on_ok_weaker}
use Rattle.svg.specs.declared.layout.TheConstants.{LEFT, SAMPLE}
use Rattle.svg.specs.Rows.{block_size}
use Rattle.svg.specs.Legend.{bar_sample, mark_sample}
use Rattle.svg.proofs.legend.push_cancelled.Goals as goal

pub returns : goal.returns
returns c =
    let y = c.args.y in
    on_ok_weaker c.push_mark_sample.result
    (λ h rest.
    let third = mark_sample (LEFT + SAMPLE * 2) y (codes "#cross") (codes "is cancelled") rest in
    let second = bar_sample (LEFT + SAMPLE) y block_size (codes "from") (codes "cancelled part") third in
    h rest ∙ c.in_ok-push_bar_sample-2.ensures third ∙ c.in_ok-push_bar_sample.ensures second)
    c.push_mark_sample.ensures
