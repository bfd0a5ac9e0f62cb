use Rattle.std.proofs.Common.{◌≡◌, ◌≤◌, map, length}
use Rattle.chart.specs.HeldColumns.{column_of}
use Rattle.svg.specs.Sheets.{place_from}
use Rattle.svg.proofs.axis.place.Given as goal

abbrev pub invariant-columns : goal.invariant-columns
invariant-columns l = record {
  bounded : l.at ≤ 1000000;
  found : place_from l.less l.at (map column_of l.rest) l.tick ≡ place_from l.less 0 (map column_of l.columns) l.tick;
}

abbrev pub decreases-columns : goal.decreases-columns
decreases-columns l = length l.rest
