use Rattle.std.proofs.Common.{◌≡◌, ◌+◌, ◌≤◌, length}
use Rattle.job_tree.specs.Weigh.{weight_of, weight_in, handled_weight, cleaned_weight}
use Rattle.job_tree.specs.Blocks.{step_of, steps_of, handled_of, cleaned_of}
use Rattle.trio_text.specs.Needs.{any_use, uses_of}
use Rattle.trio_text.proofs.uses.+uses.Given as goal

abbrev pub invariant-uses_of-steps : goal.invariant-uses_of-steps
invariant-uses_of-steps l = (any_use l.uses (uses_of (steps_of l.rest)) ≡ uses_of (steps_of l.fn.steps))
    × (weight_of (steps_of l.rest) ≤ weight_of (steps_of l.fn.steps))

abbrev pub decreases-uses_of-steps : goal.decreases-uses_of-steps
decreases-uses_of-steps l = length l.rest

abbrev pub decreases-uses_of : goal.decreases-uses_of
decreases-uses_of l = weight_of (steps_of l.steps.now)

abbrev pub decreases-uses_in : goal.decreases-uses_in
decreases-uses_in l = weight_in (step_of l.step.now)

abbrev pub decreases-handled_uses : goal.decreases-handled_uses
decreases-handled_uses l = handled_weight (handled_of l.handler.now) + 1

abbrev pub decreases-cleaned_uses : goal.decreases-cleaned_uses
decreases-cleaned_uses l = cleaned_weight (cleaned_of l.cleanup.now) + 1
