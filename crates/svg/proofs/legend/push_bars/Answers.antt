use Rattle.std.proofs.Common.{◌∙◌, ◌+◌, ◌*◌}
use Rattle.std.specs.Prelude.{codes}
use Rattle.std.proofs.lemmas.Result.{on_ok_weaker}
use Rattle.svg.specs.declared.layout.TheConstants.{LEFT, SAMPLE}
use Rattle.svg.specs.Rows.{block_size}
use Rattle.svg.specs.Legend.{bar_sample}
use Rattle.svg.proofs.legend.push_bars.Goals as goal

pub returns : goal.returns
returns c =
    let y = c.args.y in
    on_ok_weaker c.push_bar_sample-3.result
    (λ h rest.
    let third = bar_sample (LEFT + SAMPLE * 2) y block_size (codes "nursery") (codes "nursery") rest in
    let second = bar_sample (LEFT + SAMPLE) y block_size (codes "scope") (codes "scope") third in
    h rest ∙ c.in_ok-push_bar_sample-2.ensures third ∙ c.in_ok-push_bar_sample.ensures second)
    c.push_bar_sample-3.ensures
