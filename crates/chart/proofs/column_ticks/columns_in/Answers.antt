use Rattle.std.proofs.Common.{◌≡◌, sym, ap, ◌∙◌, map, drop, zero, arith}
use Rattle.chart.specs.Columns.{columns_in}
use Rattle.chart.specs.HeldColumns.{column_of}
use Rattle.chart.proofs.Lists.{map-reverse}
use Rattle.chart.proofs.column_ticks.columns_in.Goals as goal

pub returns : goal.returns
returns c =
    let none : c.ticks.left ≡ zero = omega arith in
    ap (map column_of) c.reverse.ensures.items ∙ map-reverse column_of c.ticks.columns.items ∙ sym c.ticks.invariant.held
    ∙ ap (λ left. columns_in (drop left c.args.ticks.now)) none
