use Rattle.std.proofs.Common.{length}
use Rattle.task_table.specs.Entries.{AllPlaced}
use Rattle.layer_tests.proofs.batches.order_of.Given as goal

abbrev pub invariant-turns : goal.invariant-turns
invariant-turns l = AllPlaced l.batch.current

abbrev pub decreases-turns : goal.decreases-turns
decreases-turns l = length l.batch.current
