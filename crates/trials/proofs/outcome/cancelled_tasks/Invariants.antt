use Rattle.std.proofs.Common.{◌≡◌, ◌++◌, drop, map}
use Rattle.task_table.specs.Records.{row_in}
use Rattle.outcomes.specs.JobOutcomes.{cancelled_in}
use Rattle.trials.proofs.outcome.cancelled_tasks.Given as goal

abbrev pub invariant-records : goal.invariant-records
invariant-records l = l.tasks.items ++ cancelled_in (map row_in (drop l.record-index l.records)) ≡ cancelled_in (map row_in l.records)
