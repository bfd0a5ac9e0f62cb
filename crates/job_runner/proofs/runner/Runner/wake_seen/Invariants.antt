use Rattle.job_runner.proofs.Waking.{IsSeeing, most_timed, timed}
use Rattle.job_runner.proofs.runner.Runner.wake_seen.Given as goal

abbrev pub invariant-seen : goal.invariant-seen
invariant-seen l = IsSeeing l.fn.self l.self

abbrev pub decreases-seen : goal.decreases-seen
decreases-seen l = timed (most_timed l.fn.self) l.self.clock
