use Rattle.std.proofs.Common.{◌+◌}
use Rattle.job_tree.specs.Weigh.{weight_of, weight_in, handled_weight, cleaned_weight}
use Rattle.job_tree.specs.Blocks.{step_of, steps_of, handled_of, cleaned_of}
use Rattle.job_syntax.specs.Pieces.{steps_pieces}
use Rattle.job_reader.proofs.Writing_blocks.{Left, left_from}
use Rattle.job_reader.proofs.writing.+writing.Given as goal

abbrev pub invariant-push_steps-steps : goal.invariant-push_steps-steps
invariant-push_steps-steps l = Left (steps_pieces (steps_of l.steps)) l.fn.shapes.items (left_from l.steps l.step-index) l.shapes.items

abbrev pub decreases-push_steps : goal.decreases-push_steps
decreases-push_steps l = weight_of (steps_of l.steps.now) + 1

abbrev pub decreases-push_body : goal.decreases-push_body
decreases-push_body l = weight_of l.body.now + 2

abbrev pub decreases-push_step : goal.decreases-push_step
decreases-push_step l = weight_in (step_of l.step.now) + 1

abbrev pub decreases-push_tail : goal.decreases-push_tail
decreases-push_tail l = weight_in (step_of l.step.now)

abbrev pub decreases-push_grant : goal.decreases-push_grant
decreases-push_grant l = weight_of l.body.now + 3

abbrev pub decreases-push_handler : goal.decreases-push_handler
decreases-push_handler l = handled_weight (handled_of l.handler.now)

abbrev pub decreases-push_cleanup : goal.decreases-push_cleanup
decreases-push_cleanup l = cleaned_weight (cleaned_of l.cleanup.now)
