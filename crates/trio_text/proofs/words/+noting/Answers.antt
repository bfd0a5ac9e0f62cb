use Rattle.std.proofs.Common.{arith}
use Rattle.trio_text.proofs.Fronts.{weight_first, weight_others, notes_more, notes_none}
use Rattle.trio_text.proofs.words.+noting.Goals as goal

pub note_steps-note_step-requires : goal.note_steps-note_step-requires
note_steps-note_step-requires t c =
    let weight = weight_first c.steps.rest.now c.in-Some.first.now c.in-Some.others.now _ c.in-Some.ensures.cases.0 c.steps.invariant.1 in
    (omega (arith, weight, c.decreases), tt)

pub note_steps-steps-preserved : goal.note_steps-steps-preserved
note_steps-steps-preserved t c = (
  λ after more.
      c.steps.invariant.0 after
      (notes_more c.steps.rest.now c.in-Some.first.now c.in-Some.others.now c.steps.words c.note_step.new.words after
      c.in-Some.ensures.cases.0 c.in_ok-note_step.ensures more),
  weight_others c.steps.rest.now c.in-Some.first.now c.in-Some.others.now _ c.in-Some.ensures.cases.0 c.steps.invariant.1,
)

pub note_steps-returns : goal.note_steps-returns
note_steps-returns t c = c.steps.invariant.0 c.steps.words (notes_none c.steps.rest.now c.steps.words c.in_default.ensures.cases)
