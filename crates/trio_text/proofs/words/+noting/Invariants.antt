use Rattle.std.proofs.Common.{◌+◌, ◌≤◌, length}
use Rattle.job_tree.specs.Weigh.{weight_of, weight_in, handled_weight, cleaned_weight}
use Rattle.job_tree.specs.Blocks.{step_of, steps_of, handled_of, cleaned_of}
use Rattle.trio_text.specs.declared.words.Words.{Words}
use Rattle.trio_text.specs.Uses.{NotesSteps}
use Rattle.trio_text.proofs.words.+noting.Given as goal

abbrev pub invariant-note_steps-steps : goal.invariant-note_steps-steps
invariant-note_steps-steps l = ((after : Words) → NotesSteps (steps_of l.rest) l.words after → NotesSteps (steps_of l.fn.steps) l.fn.words after)
    × (weight_of (steps_of l.rest) ≤ weight_of (steps_of l.fn.steps))

abbrev pub decreases-note_steps-steps : goal.decreases-note_steps-steps
decreases-note_steps-steps l = length l.rest

abbrev pub decreases-note_steps : goal.decreases-note_steps
decreases-note_steps l = weight_of (steps_of l.steps.now)

abbrev pub decreases-note_step : goal.decreases-note_step
decreases-note_step l = weight_in (step_of l.step.now)

abbrev pub decreases-note_named : goal.decreases-note_named
decreases-note_named l = weight_of l.body.now + 1

abbrev pub decreases-note_handler : goal.decreases-note_handler
decreases-note_handler l = handled_weight (handled_of l.handler.now) + 1

abbrev pub decreases-note_cleanup : goal.decreases-note_cleanup
decreases-note_cleanup l = cleaned_weight (cleaned_of l.cleanup.now) + 1
