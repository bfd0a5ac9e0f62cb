use Rattle.job_runner.proofs.Waking.{IsDue, most_timed, timed}
use Rattle.job_runner.proofs.runner.Runner.wake_due.Given as goal

abbrev pub invariant-due : goal.invariant-due
invariant-due l = IsDue l.fn.self l.self

abbrev pub decreases-due : goal.decreases-due
decreases-due l = timed (most_timed l.fn.self) l.self.clock
