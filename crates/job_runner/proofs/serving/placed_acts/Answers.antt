use Rattle.std.proofs.Common.{refl}
use Rattle.job_runner.proofs.RecordOrder.{placing_next}
use Rattle.job_runner.proofs.serving.placed_acts.Goals as goal

pub acts-preserved : goal.acts-preserved
acts-preserved c =
    placing_next c.in-Some.act _ c.acts.invariant c.in-Some.ensures.steps.0 refl c.in_ok-path.ensures c.in_ok-push.ensures.items
