use Rattle.std.proofs.Common.{◌≡◌, map, drop}
use Rattle.chart.specs.Columns.{column_from}
use Rattle.chart.specs.HeldColumns.{column_of}
use Rattle.chart.proofs.places.column_from.Given as goal

abbrev pub invariant-columns : goal.invariant-columns
invariant-columns l =
    column_from l.found (map column_of (drop l.column-index l.columns)) l.tick ≡ column_from l.before (map column_of l.columns) l.tick
