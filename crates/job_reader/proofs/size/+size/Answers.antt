use Rattle.std.proofs.Common.{◌≡◌, ◌+◌, List, [], drop, subst, arith}
use Rattle.std.specs.Io.Iter.{u64_saturate}
use Rattle.std.proofs.lemmas.List.{drop_all}
use Rattle.job_tree.specs.declared.step.Step.{Step}
use Rattle.job_tree.specs.Blocks.{steps_of}
use Rattle.job_tree.specs.Names.{size_of}
use Rattle.job_tree.proofs.Weights.{weight_at}
use Rattle.job_reader.proofs.size.+size.Goals as goal

pub size_of-size_in-more-requires : goal.size_of-size_in-more-requires
size_of-size_in-more-requires t c =
    let weight = weight_at c.args.steps.now c.steps.step-index c.step-item.result c.steps-test.true c.step-item.is in
    (omega (arith, weight, c.decreases), tt {0})

pub size_of-returns : goal.size_of-returns
size_of-returns t c =
    let done : drop c.steps.step-index c.args.steps.now ≡ [] = drop_all c.steps.step-index c.args.steps.now c.steps-test.false in
    let all : u64_saturate (c.steps.size + 0) ≡ u64_saturate (size_of (steps_of c.args.steps.now)) =
    subst (λ (ss : List Step). u64_saturate (c.steps.size + size_of (steps_of ss)) ≡ u64_saturate (size_of (steps_of c.args.steps.now))) done
    c.steps.invariant.1 in
    omega (arith, all, c.steps.invariant.0)
