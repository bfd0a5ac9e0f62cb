use Rattle.std.proofs.Common.{◌+◌, drop}
use Rattle.job_tree.specs.Weigh.{weight_of, weight_in, handled_weight, cleaned_weight}
use Rattle.job_tree.specs.Blocks.{step_of, steps_of, handled_of, cleaned_of}
use Rattle.job_lint.specs.Opened.{names_opened}
use Rattle.job_lint.proofs.Walking_blocks.{AtStep}
use Rattle.job_lint.proofs.walk.+walking.Given as goal

abbrev pub invariant-walk_steps-steps : goal.invariant-walk_steps-steps
invariant-walk_steps-steps l =
    AtStep l.places l.around (names_opened l.opened) l.number (steps_of l.steps) l.fn.found.items l.unreachable l.next
    (steps_of (drop l.step-index l.steps)) l.found.items

abbrev pub decreases-walk_steps : goal.decreases-walk_steps
decreases-walk_steps l = weight_of (steps_of l.steps.now)

abbrev pub decreases-walk_inside : goal.decreases-walk_inside
decreases-walk_inside l = weight_in (step_of l.step.now)

abbrev pub decreases-walk_body : goal.decreases-walk_body
decreases-walk_body l = weight_of l.body.now + 1

abbrev pub decreases-walk_opened : goal.decreases-walk_opened
decreases-walk_opened l = weight_of l.body.now + 1

abbrev pub decreases-walk_handler : goal.decreases-walk_handler
decreases-walk_handler l = handled_weight (handled_of l.handler.now) + 1

abbrev pub decreases-walk_cleanup : goal.decreases-walk_cleanup
decreases-walk_cleanup l = cleaned_weight (cleaned_of l.cleanup.now) + 1
