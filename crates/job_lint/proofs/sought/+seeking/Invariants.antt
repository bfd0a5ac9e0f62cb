use Rattle.std.proofs.Common.{◌≡◌, ◌+◌, drop}
use Rattle.job_tree.specs.Weigh.{weight_of, weight_in, handled_weight, cleaned_weight}
use Rattle.job_tree.specs.Blocks.{step_of, steps_of, handled_of, cleaned_of}
use Rattle.job_lint.specs.Seeking.{has}
use Rattle.job_lint.proofs.sought.+seeking.Given as goal

abbrev pub invariant-has-steps : goal.invariant-has-steps
invariant-has-steps l = has l.sought (steps_of (drop l.step-index l.steps)) ≡ has l.sought (steps_of l.steps)

abbrev pub decreases-has : goal.decreases-has
decreases-has l = weight_of (steps_of l.steps.now)

abbrev pub decreases-has_inside : goal.decreases-has_inside
decreases-has_inside l = weight_in (step_of l.step.now)

abbrev pub decreases-object_has : goal.decreases-object_has
decreases-object_has l = weight_of l.body.now + 2

abbrev pub decreases-is_inverted : goal.decreases-is_inverted
decreases-is_inverted l = weight_of (steps_of l.steps.now) + 1

abbrev pub decreases-handled_has : goal.decreases-handled_has
decreases-handled_has l = handled_weight (handled_of l.handler.now) + 1

abbrev pub decreases-cleaned_has : goal.decreases-cleaned_has
decreases-cleaned_has l = cleaned_weight (cleaned_of l.cleanup.now) + 1
