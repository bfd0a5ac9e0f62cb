use Rattle.std.proofs.Common.{◌≡◌, ◌≤◌, ◌+◌, ◌-◌}
use Rattle.task_table.specs.Halves.{inner_nodes}
use Rattle.task_table.proofs.halves.shape_for.Given as goal

abbrev pub invariant-depth : goal.invariant-depth
invariant-depth l = record {
  half : l.half ≡ inner_nodes l.depth;
  depth : l.depth ≤ l.half;
  not_many : l.half ≤ l.count + l.count;
}

abbrev pub decreases-depth : goal.decreases-depth
decreases-depth l = l.count - l.half
