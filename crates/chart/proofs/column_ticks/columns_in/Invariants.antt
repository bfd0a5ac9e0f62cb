use Rattle.std.proofs.Common.{◌≡◌, ◌≤◌, map, drop, length}
use Rattle.std.specs.Prelude.{reverse}
use Rattle.chart.specs.Columns.{columns_in}
use Rattle.chart.specs.HeldColumns.{column_of}
use Rattle.chart.proofs.column_ticks.columns_in.Given as goal

abbrev pub invariant-ticks : goal.invariant-ticks
invariant-ticks l = record {
  within : l.left ≤ length l.ticks;
  held : columns_in (drop l.left l.ticks) ≡ reverse (map column_of l.columns.items);
}

abbrev pub decreases-ticks : goal.decreases-ticks
decreases-ticks l = l.left
