use Rattle.std.proofs.Common.{◌≡◌, length}
use Rattle.std.specs.Prelude.{map}
use Rattle.chart.specs.HeldColumns.{column_of}
use Rattle.chart.specs.Text.{numbered}
use Rattle.chart.specs.HeldText.{rows_held}
use Rattle.chart.proofs.numbers.place_all.Given as goal

abbrev pub invariant-columns : goal.invariant-columns
invariant-columns l =
    numbered l.less l.at (map column_of l.rest) (rows_held l.rows)
    ≡ numbered l.less 0 (map column_of l.columns) (rows_held l.fn.rows)

abbrev pub decreases-columns : goal.decreases-columns
decreases-columns l = length l.rest
