use Rattle.std.proofs.Common.{◌≡◌, ◌<◌, ◌+◌, ◌^◌, drop}
use Rattle.std.specs.Io.Iter.{u64_saturate}
use Rattle.job_tree.specs.Weigh.{weight_of, weight_in, handled_weight, cleaned_weight}
use Rattle.job_tree.specs.Blocks.{step_of, steps_of, handled_of, cleaned_of}
use Rattle.job_tree.specs.Names.{size_of}
use Rattle.job_reader.proofs.size.+size.Given as goal

abbrev pub invariant-size_of-steps : goal.invariant-size_of-steps
invariant-size_of-steps l =
    (l.size < 2 ^ 64)
    × (u64_saturate (l.size + size_of (steps_of (drop l.step-index l.steps))) ≡ u64_saturate (size_of (steps_of l.steps)))

abbrev pub decreases-size_of : goal.decreases-size_of
decreases-size_of l = weight_of (steps_of l.steps.now)

abbrev pub decreases-size_in : goal.decreases-size_in
decreases-size_in l = weight_in (step_of l.step.now)

abbrev pub decreases-handled_size : goal.decreases-handled_size
decreases-handled_size l = handled_weight (handled_of l.handler.now) + 1

abbrev pub decreases-cleaned_size : goal.decreases-cleaned_size
decreases-cleaned_size l = cleaned_weight (cleaned_of l.cleanup.now) + 1
