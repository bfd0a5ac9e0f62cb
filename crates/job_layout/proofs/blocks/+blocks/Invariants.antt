use Rattle.std.proofs.Common.{◌≡◌, ◌+◌, ◌-◌, ◌*◌, ◌≤◌, length}
use Rattle.job_tree.specs.Weigh.{weight_of, weight_in, handled_weight, cleaned_weight}
use Rattle.job_tree.specs.Blocks.{step_of, steps_of, handled_of, cleaned_of}
use Rattle.job_syntax.specs.Depth.{AreWithin}
use Rattle.job_layout.specs.Layout.{with_steps}
use Rattle.job_layout.proofs.blocks.+blocks.Given as goal

abbrev pub invariant-push_steps-steps : goal.invariant-push_steps-steps
invariant-push_steps-steps l = (with_steps l.bare l.level (steps_of l.rest) l.layout ≡ with_steps l.bare l.level (steps_of l.fn.steps) l.fn.layout)
    × AreWithin (32 - l.level) (steps_of l.rest) × (weight_of (steps_of l.rest) ≤ weight_of (steps_of l.fn.steps))

abbrev pub decreases-push_steps-steps : goal.decreases-push_steps-steps
decreases-push_steps-steps l = length l.rest

abbrev pub decreases-push_steps : goal.decreases-push_steps
decreases-push_steps l = 2 * weight_of (steps_of l.steps.now)

abbrev pub decreases-push_step : goal.decreases-push_step
decreases-push_step l = 2 * weight_in (step_of l.step.now) + 1

abbrev pub decreases-push_rest : goal.decreases-push_rest
decreases-push_rest l = 2 * weight_in (step_of l.step.now)

abbrev pub decreases-push_grant : goal.decreases-push_grant
decreases-push_grant l = 2 * weight_of l.body.now + 5

abbrev pub decreases-push_block : goal.decreases-push_block
decreases-push_block l = 2 * weight_of (steps_of l.steps.now) + 4

abbrev pub decreases-push_handler : goal.decreases-push_handler
decreases-push_handler l = 2 * handled_weight (handled_of l.handler.now)

abbrev pub decreases-push_cleanup : goal.decreases-push_cleanup
decreases-push_cleanup l = 2 * cleaned_weight (cleaned_of l.cleanup.now)
