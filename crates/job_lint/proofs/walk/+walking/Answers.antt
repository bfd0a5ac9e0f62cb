use Rattle.std.proofs.Common.{arith}
use Rattle.job_tree.proofs.Weights.{weight_at}
use Rattle.job_lint.proofs.Walking_blocks.{at_item, room_at, at_stop}
use Rattle.job_lint.proofs.walk.+walking.Goals as goal

pub walk_steps-walk_inside-requires : goal.walk_steps-walk_inside-requires
walk_steps-walk_inside-requires t c =
    let at = at_item _ _ _ _ _ _ _ _ c.args.steps.now c.steps.step-index c.step-item.result _ c.steps.invariant c.steps-test.true c.step-item.is
    in
    let weight = weight_at c.args.steps.now c.steps.step-index c.step-item.result c.steps-test.true c.step-item.is in
    (omega (arith, weight, c.decreases), room_at _ _ _ _ _ _ _ _ _ _ _ at c.requires)

pub walk_steps-returns : goal.walk_steps-returns
walk_steps-returns t c = at_stop _ _ _ _ _ _ _ _ c.args.steps.now c.steps.step-index _ c.steps.invariant (omega (arith, c.steps-test.false))
