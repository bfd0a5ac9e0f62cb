use Rattle.std.specs.Prelude.{length}
use Rattle.job_runner.proofs.TakenActs.{IsTakingActs}
use Rattle.job_runner.proofs.runner.Runner.take_acts.Given as goal

abbrev pub invariant-acts : goal.invariant-acts
invariant-acts l = IsTakingActs l.fn.self l.self l.fn.row

abbrev pub decreases-acts : goal.decreases-acts
decreases-acts l = length l.self.world.acts.items
