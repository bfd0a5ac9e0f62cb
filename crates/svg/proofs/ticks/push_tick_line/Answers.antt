use Rattle.std.proofs.Common.{◌∙◌, ◌-◌}
use Rattle.std.specs.Prelude.{codes, decimal}
use Rattle.std.proofs.lemmas.Result.{on_ok_weaker}
use Rattle.svg.specs.Content.{text}
use Rattle.svg.specs.declared.layout.TheConstants.{TOP}
use Rattle.svg.specs.Rows.{words}
use Rattle.svg.proofs.Elements.{text_before}
use Rattle.svg.proofs.ticks.push_tick_line.Goals as goal

pub returns : goal.returns
returns c =
    on_ok_weaker c.text.result
    (λ h rest.
    let line = text (codes "\n") rest in
    text_before _ (codes "\n") _ h rest
    ∙ c.in_ok-push_tick.ensures line
    ∙ c.in_ok-push_line.ensures (words (codes "tick") c.args.x (TOP - 6) (decimal c.args.column.now.tick) line))
    c.text.ensures
