use Rattle.std.proofs.Common.{◌≡◌, map, drop}
use Rattle.chart.specs.Columns.{fits_from}
use Rattle.chart.specs.HeldColumns.{column_of}
use Rattle.chart.proofs.fitting.fits_from.Given as goal

abbrev pub invariant-columns : goal.invariant-columns
invariant-columns l =
    fits_from l.less l.left l.at (map column_of (drop l.column-index l.after)) ≡ fits_from l.less l.room l.tick (map column_of l.after)
