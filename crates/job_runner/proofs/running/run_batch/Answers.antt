use Rattle.std.proofs.Common.{length, ap, arith}
use Rattle.task_table.specs.TaskTable.{ended_task_of}
use Rattle.job_runner.proofs.FewRequests.{few_requests}
use Rattle.job_runner.proofs.Rounds.{ready_some}
use Rattle.job_runner.proofs.running.run_batch.Goals as goal

pub returns-clause-turns : goal.returns-clause-turns
returns-clause-turns g c =
    let more = c.in_ok-commit_batch.ensures.turns in
    let some = ready_some c.args.runner.now.batch.current (ended_task_of c.args.runner.now.task_table 0) c.requires.ready in
    omega (arith, more, some)

pub work-requires-clause-few_requests : goal.work-requires-clause-few_requests
work-requires-clause-few_requests g c =
    let few = few_requests c.args.runner.now c.requires.underway in
    let same = ap length c.in_ok-requests.ensures in
    let slice = ap length c.as_slice.ensures.value in
    omega (arith, few, same, slice)
