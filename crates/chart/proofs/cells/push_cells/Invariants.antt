use Rattle.std.proofs.Common.{◌≡◌, ◌++◌, length}
use Rattle.std.specs.Prelude.{map}
use Rattle.chart.specs.HeldColumns.{column_of}
use Rattle.chart.specs.Marks.{cells}
use Rattle.chart.specs.HeldText.{row_held}
use Rattle.chart.proofs.cells.push_cells.Given as goal

abbrev pub invariant-columns : goal.invariant-columns
invariant-columns l =
    l.out.items ++ cells l.less (row_held l.row) (map column_of l.rest)
    ≡ l.fn.out.items ++ cells l.less (row_held l.row) (map column_of l.columns)

abbrev pub decreases-columns : goal.decreases-columns
decreases-columns l = length l.rest
