use Rattle.std.proofs.Common.{◌≡◌, drop}
use Rattle.std.specs.Prelude.{map}
use Rattle.task_table.specs.Records.{row_in}
use Rattle.race_text.specs.Differences.{row_of}
use Rattle.race_text.proofs.tasks.row_of.Given as goal

abbrev pub invariant-rows : goal.invariant-rows
invariant-rows l = row_of l.task (map row_in (drop l.row-index l.rows)) ≡ row_of l.task (map row_in l.rows)
