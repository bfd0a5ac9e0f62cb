use Rattle.std.proofs.Common.{◌≡◌, ◌+◌, ◌-◌, ◌*◌, length}
use Rattle.job_tokens.specs.Shapes.{shapes_of}
use Rattle.job_syntax.specs.Reading.{steps_with, blocks_at}
use Rattle.job_syntax.proofs.Steps.{with_front}
use Rattle.job_syntax.proofs.tree.+tree.Given as goal

abbrev pub decreases-blocks_at : goal.decreases-blocks_at
decreases-blocks_at l = 8 * l.depth

abbrev pub decreases-steps_with : goal.decreases-steps_with
decreases-steps_with l = 8 * l.depth + 5

abbrev pub decreases-step_at : goal.decreases-step_at
decreases-step_at l = 8 * l.depth + 4

abbrev pub decreases-scope_at : goal.decreases-scope_at
decreases-scope_at l = 8 * l.depth + 3

abbrev pub decreases-nursery_at : goal.decreases-nursery_at
decreases-nursery_at l = 8 * l.depth + 3

abbrev pub decreases-event_at : goal.decreases-event_at
decreases-event_at l = 8 * l.depth + 3

abbrev pub decreases-object_at : goal.decreases-object_at
decreases-object_at l = 8 * l.depth + 3

abbrev pub decreases-grant_at : goal.decreases-grant_at
decreases-grant_at l = 8 * l.depth + 3

abbrev pub decreases-start_at : goal.decreases-start_at
decreases-start_at l = 8 * l.depth + 3

abbrev pub decreases-repeat_at : goal.decreases-repeat_at
decreases-repeat_at l = 8 * l.depth + 3

abbrev pub decreases-try_at : goal.decreases-try_at
decreases-try_at l = 8 * l.depth + 3

abbrev pub decreases-handler_at : goal.decreases-handler_at
decreases-handler_at l = 8 * l.depth + 2

abbrev pub decreases-cleanup_at : goal.decreases-cleanup_at
decreases-cleanup_at l = 8 * l.depth + 2

abbrev pub decreases-body_at : goal.decreases-body_at
decreases-body_at l = 8 * l.depth + 1

abbrev pub invariant-steps_with-steps : goal.invariant-steps_with-steps
invariant-steps_with-steps l = with_front l.steps.items (steps_with (blocks_at l.depth) (length l.tokens - l.counter) (shapes_of l.rest))
    ≡ steps_with (blocks_at l.depth) (length l.tokens) (shapes_of l.tokens)
