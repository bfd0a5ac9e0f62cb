use Rattle.std.specs.Prelude.{length}
use Rattle.job_runner.proofs.Starting.{Taking}
use Rattle.job_runner.proofs.runner.Runner.take_started.Given as goal

abbrev pub invariant-started : goal.invariant-started
invariant-started l = Taking l.fn.self l.self l.fn.row

abbrev pub decreases-started : goal.decreases-started
decreases-started l = length l.self.world.started.items
