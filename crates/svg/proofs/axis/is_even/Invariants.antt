use Rattle.std.proofs.Common.{◌≡◌, map, length}
use Rattle.chart.specs.HeldColumns.{column_of}
use Rattle.svg.specs.Sheets.{is_even}
use Rattle.svg.proofs.axis.is_even.Given as goal

abbrev pub invariant-columns : goal.invariant-columns
invariant-columns l =
    is_even l.less l.ticks l.room (map column_of l.rest) ≡ is_even l.less l.ticks l.room (map column_of l.columns)

abbrev pub decreases-columns : goal.decreases-columns
decreases-columns l = length l.rest
