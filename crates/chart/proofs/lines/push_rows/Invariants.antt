use Rattle.std.proofs.Common.{◌≡◌, ◌++◌, drop}
use Rattle.std.specs.Prelude.{map}
use Rattle.chart.specs.HeldBars.{bar_of}
use Rattle.chart.specs.HeldColumns.{column_of}
use Rattle.chart.specs.Text.{rows_text}
use Rattle.chart.proofs.lines.push_rows.Given as goal

abbrev pub invariant-bars : goal.invariant-bars
invariant-bars l =
    l.out.items ++ rows_text l.sheet.clock l.sheet.width l.sheet.last l.sheet.less (map column_of l.columns) l.sheet.names (map bar_of (drop l.bar-index l.bars))
    ≡ l.fn.out.items ++ rows_text l.sheet.clock l.sheet.width l.sheet.last l.sheet.less (map column_of l.columns) l.sheet.names (map bar_of l.bars)
