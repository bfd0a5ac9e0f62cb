use Rattle.std.proofs.Common.{arith}
use Rattle.job_tree.proofs.Weights.{weight_at}
use Rattle.job_reader.proofs.uses.+search.Goals as goal

pub search_steps-search_step-found-requires : goal.search_steps-search_step-found-requires
search_steps-search_step-found-requires t c =
    let weight = weight_at c.args.steps.now c.steps.step-index c.step-item.result c.steps-test.true c.step-item.is in
    (omega (arith, weight, c.decreases), tt {0})
