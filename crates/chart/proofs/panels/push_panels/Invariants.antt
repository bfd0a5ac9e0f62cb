use Rattle.std.proofs.Common.{◌≡◌, ◌++◌}
use Rattle.std.specs.Prelude.{map}
use Rattle.chart.specs.HeldBars.{bar_of}
use Rattle.chart.specs.HeldColumns.{column_of}
use Rattle.chart.specs.Text.{panels_text}
use Rattle.chart.proofs.panels.push_panels.Given as goal

abbrev pub invariant-panels : goal.invariant-panels
invariant-panels l =
    l.out.items
    ++ panels_text l.sheet.clock l.sheet.width l.sheet.last l.sheet.less l.sheet.names (map bar_of l.bars) l.panels.size l.left (map column_of l.rest)
    ≡ l.fn.out.items
    ++ panels_text l.sheet.clock l.sheet.width l.sheet.last l.sheet.less l.sheet.names (map bar_of l.bars) l.panels.size l.panels.count (map column_of l.panels.columns.now)

abbrev pub decreases-panels : goal.decreases-panels
decreases-panels l = l.left
