-- Each step of a block weighs less than the block.
use Rattle.std.proofs.Common.{◌≡◌, ℕ, zero, suc, ◌+◌, ◌≤◌, ◌<◌, List, [], ◌∷◌, length, get_or, arith}
use Rattle.job_tree.specs.Tree.{Steps, stop, step}
use Rattle.job_tree.specs.Blocks.{step_of, steps_of}
use Rattle.job_tree.specs.Weigh.{weight_of, weight_in}
use Rattle.job_tree.specs.declared.step.Step.{Step}

weight_some : (ss : Steps) → 1 ≤ weight_of ss
weight_some stop = omega arith
weight_some (step s ss) = omega (arith, weight_some ss)

-- each step of a block weighs less than the block
pub weight_at : (ss : List Step) (i : ℕ) (s : Step) → i < length ss → s ≡ get_or ss i s →
    weight_in (step_of s) + 1 ≤ weight_of (steps_of ss)
weight_at [] i s lt is = absurd (omega arith)
weight_at (x ∷ xs) zero s lt is = rw is (omega (arith, weight_some (steps_of xs)))
weight_at (x ∷ xs) (suc i) s lt is = omega (arith, weight_at xs i s (omega arith) is)
