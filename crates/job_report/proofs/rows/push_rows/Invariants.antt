use Rattle.std.proofs.Common.{◌≡◌, ◌++◌, take}
use Rattle.std.specs.Prelude.{map}
use Rattle.std.specs.List.{flat_map}
use Rattle.task_table.specs.Records.{row_in}
use Rattle.job_report.specs.Text.{row_text}
use Rattle.job_report.proofs.rows.push_rows.Given as goal

abbrev pub invariant-rows : goal.invariant-rows
invariant-rows l = l.out.items ≡ l.fn.out.items ++ flat_map row_text (map row_in (take l.row-index l.rows))
