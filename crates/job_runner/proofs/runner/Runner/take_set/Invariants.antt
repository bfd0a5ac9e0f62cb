use Rattle.std.specs.Prelude.{length}
use Rattle.job_runner.proofs.WokenWaiters.{IsTakingSet}
use Rattle.job_runner.proofs.runner.Runner.take_set.Given as goal

abbrev pub invariant-set : goal.invariant-set
invariant-set l = IsTakingSet l.fn.self l.self

abbrev pub decreases-set : goal.decreases-set
decreases-set l = length l.self.world.set.items
