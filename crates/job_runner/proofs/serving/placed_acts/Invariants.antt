use Rattle.job_runner.proofs.RecordOrder.{ArePlacing}
use Rattle.job_runner.proofs.serving.placed_acts.Given as goal

abbrev pub invariant-acts : goal.invariant-acts
invariant-acts l = ArePlacing l.fn.task_table l.fn.round.items l.act-iterator.rest.items l.placed.items
