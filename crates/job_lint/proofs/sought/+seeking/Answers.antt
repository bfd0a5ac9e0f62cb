use Rattle.std.proofs.Common.{arith}
use Rattle.job_tree.proofs.Weights.{weight_at}
use Rattle.job_lint.proofs.sought.+seeking.Goals as goal

pub has-has_inside-requires : goal.has-has_inside-requires
has-has_inside-requires t c =
    let weight = weight_at c.args.steps.now c.steps.step-index c.step-item.result c.steps-test.true c.step-item.is in
    (omega (arith, weight, c.decreases), tt {0})
