use Rattle.std.proofs.Common.{◌+◌, ◌≤◌, List, ℕ, length}
use Rattle.job_tree.specs.Weigh.{weight_of, weight_in, handled_weight, cleaned_weight}
use Rattle.job_tree.specs.Blocks.{step_of, steps_of, handled_of, cleaned_of}
use Rattle.trio_text.specs.Uses.{known_in}
use Rattle.trio_text.specs.Blocks.{Writes}
use Rattle.trio_text.proofs.steps.+steps.Given as goal

abbrev pub invariant-push_each-steps : goal.invariant-push_each-steps
invariant-push_each-steps l =
    ((after : List ℕ) → Writes (known_in l.words) l.place.nursery (steps_of l.rest) l.place.level l.out.items after
    → Writes (known_in l.words) l.place.nursery (steps_of l.fn.steps) l.place.level l.fn.out.items after)
    × (weight_of (steps_of l.rest) ≤ weight_of (steps_of l.fn.steps))

abbrev pub decreases-push_each-steps : goal.decreases-push_each-steps
decreases-push_each-steps l = length l.rest

abbrev pub decreases-push_steps : goal.decreases-push_steps
decreases-push_steps l = weight_of (steps_of l.steps.now) + 1

abbrev pub decreases-push_each : goal.decreases-push_each
decreases-push_each l = weight_of (steps_of l.steps.now)

abbrev pub decreases-push_block : goal.decreases-push_block
decreases-push_block l = weight_of l.body.now + 2

abbrev pub decreases-push_step : goal.decreases-push_step
decreases-push_step l = weight_in (step_of l.step.now)

abbrev pub decreases-push_child : goal.decreases-push_child
decreases-push_child l = 3 + weight_of l.body.now

abbrev pub decreases-push_ask : goal.decreases-push_ask
decreases-push_ask l = 3 + weight_of l.body.now

abbrev pub decreases-push_passes : goal.decreases-push_passes
decreases-push_passes l = 3 + weight_of l.body.now

abbrev pub decreases-push_handler : goal.decreases-push_handler
decreases-push_handler l = handled_weight (handled_of l.handler.now)

abbrev pub decreases-push_tried : goal.decreases-push_tried
decreases-push_tried l = 3 + weight_of l.body.now + handled_weight (handled_of l.handler.now)

abbrev pub decreases-push_try : goal.decreases-push_try
decreases-push_try l = 4 + weight_of l.body.now + handled_weight (handled_of l.handler.now) + cleaned_weight (cleaned_of l.cleanup.now)

abbrev pub decreases-push_try_apart : goal.decreases-push_try_apart
decreases-push_try_apart l = 5 + weight_of l.body.now + handled_weight (handled_of l.handler.now) + weight_of l.cleanup.now
