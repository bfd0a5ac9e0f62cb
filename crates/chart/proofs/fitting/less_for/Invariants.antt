use Rattle.std.proofs.Common.{◌≡◌, ◌+◌, ◌≤◌, map}
use Rattle.chart.specs.Columns.{less_from, less_for}
use Rattle.chart.specs.HeldColumns.{column_of}
use Rattle.chart.proofs.fitting.less_for.Given as goal

abbrev pub invariant-less : goal.invariant-less
invariant-less l = record {
  tried : l.more + l.less ≤ 83;
  found : less_from l.more l.less l.room (map column_of l.columns) ≡ less_for l.room (map column_of l.columns);
}

abbrev pub decreases-less : goal.decreases-less
decreases-less l = l.more
