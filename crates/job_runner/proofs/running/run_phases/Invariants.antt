use Rattle.job_runner.specs.Rounds.{rounds_left}
use Rattle.job_runner.specs.Shelves.{IsSameJob, IsUnderway}
use Rattle.job_runner.proofs.running.run_phases.Given as goal

abbrev pub invariant-phases : goal.invariant-phases
invariant-phases g l = IsUnderway l.runner × IsSameJob l.fn.runner l.runner

abbrev pub decreases-phases : goal.decreases-phases
decreases-phases g l = rounds_left l.runner
