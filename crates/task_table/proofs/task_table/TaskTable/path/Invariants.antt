use Rattle.std.proofs.Common.{◌≡◌, ◌<◌, ◌++◌}
use Rattle.std.specs.Prelude.{reverse}
use Rattle.task_table.specs.TaskTable.{task_count, path_of}
use Rattle.task_table.proofs.task_table.TaskTable.path.Given as goal

abbrev pub invariant-upwards : goal.invariant-upwards
invariant-upwards l = record {
  below : l.at < task_count l.self;
  so_far : path_of l.self l.fn.row ≡ path_of l.self l.at ++ reverse l.path.items;
}

abbrev pub decreases-upwards : goal.decreases-upwards
decreases-upwards l = l.at
