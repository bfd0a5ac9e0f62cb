use Rattle.std.specs.Prelude.{length}
use Rattle.cancel_scopes.specs.Tree.{is_changed}
use Rattle.job_runner.proofs.Counting.{count_below}
use Rattle.job_runner.proofs.Telling.{IsTelling}
use Rattle.job_runner.proofs.runner.Runner.see_changed.Given as goal

abbrev pub invariant-changed : goal.invariant-changed
invariant-changed l = IsTelling l.fn.self l.self

abbrev pub decreases-changed : goal.decreases-changed
decreases-changed l = count_below (length l.fn.self.world.scopes.changed) (is_changed l.self.world.scopes)
