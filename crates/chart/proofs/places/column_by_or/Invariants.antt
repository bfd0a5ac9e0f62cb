use Rattle.std.proofs.Common.{◌≡◌, map, drop}
use Rattle.chart.specs.Columns.{column_by_or}
use Rattle.chart.specs.HeldColumns.{column_of}
use Rattle.chart.proofs.places.column_by_or.Given as goal

abbrev pub invariant-columns : goal.invariant-columns
invariant-columns l =
    column_by_or l.last (map column_of (drop l.column-index l.columns)) l.tick ≡ column_by_or l.last (map column_of l.columns) l.tick
