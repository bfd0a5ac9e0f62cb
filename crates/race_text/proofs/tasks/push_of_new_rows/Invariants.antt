use Rattle.std.proofs.Common.{◌≡◌, ◌++◌, drop}
use Rattle.std.specs.Prelude.{map}
use Rattle.task_table.specs.Records.{row_in}
use Rattle.race_text.specs.Differences.{of_new_rows}
use Rattle.race_text.specs.RowViews.{difference_held}
use Rattle.race_text.proofs.tasks.push_of_new_rows.Given as goal

abbrev pub invariant-rows : goal.invariant-rows
invariant-rows l =
    map difference_held l.found.items ++ of_new_rows (map row_in l.before) (map row_in (drop l.row-index l.after))
    ≡ map difference_held l.fn.found.items ++ of_new_rows (map row_in l.before) (map row_in l.after)
