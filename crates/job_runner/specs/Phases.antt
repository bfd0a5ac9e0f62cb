-- What clauses state about a runner.
use Rattle.std.specs.Prelude.{Option, Some, None, List, [], ◌∷◌}
use Rattle.task_table.specs.declared.entry.Entry.{Entry}
use Rattle.run_refinement.specs.RunState.{EndedTask}
use Rattle.task_table.specs.TaskTable.{ended_task_of}
use Rattle.job_runner.specs.declared.runner.Phase.{Phase}
use Rattle.job_runner.specs.declared.runner.Phase.TheVariants.{Ready, Blocked, Over}
use Rattle.job_runner.specs.declared.runner.Runner.{Runner}

-- Tasks are ready while the current batch has one; if it has none, the run is over if the root has ended, and blocked
-- otherwise.
abbrev pub phase_by : List Entry → Option EndedTask → Phase
phase_by (e ∷ es) ended = Ready
phase_by [] (Some g) = Over
phase_by [] None = Blocked

abbrev pub phase_of : Runner → Phase
phase_of r = phase_by r.batch.current (ended_task_of r.task_table 0)
