use Rattle.std.proofs.Common.{◌∙◌, ap, arith}
use Rattle.job_tree.specs.Blocks.{steps_of}
use Rattle.trio_text.specs.declared.uses.Uses.{Uses}
use Rattle.trio_text.specs.Needs.{any_use, uses_of}
use Rattle.trio_text.proofs.Fronts.{weight_first, weight_others}
use Rattle.trio_text.proofs.Needing.{uses_first, uses_more, uses_last}
use Rattle.trio_text.proofs.uses.+uses.Goals as goal

pub uses_of-uses_in-more-requires : goal.uses_of-uses_in-more-requires
uses_of-uses_in-more-requires t c =
    let weight = weight_first c.steps.rest.now c.in-Some.first.now c.in-Some.others.now _ c.in-Some.ensures.cases.0 c.steps.invariant.1 in
    (omega (arith, weight, c.decreases), tt)

pub uses_of-steps-init : goal.uses_of-steps-init
uses_of-steps-init t c = (
  ap (λ (u : Uses). any_use u (uses_of (steps_of c.args.steps.now))) c.no_uses-uses.ensures
      ∙ uses_first (uses_of (steps_of c.args.steps.now)),
  omega arith,
)

pub uses_of-steps-preserved : goal.uses_of-steps-preserved
uses_of-steps-preserved t c = (
  ap (λ (u : Uses). any_use u (uses_of (steps_of c.in-Some.others.now)))
      (c.any_use-uses.ensures ∙ ap (λ (u : Uses). any_use c.steps.uses u) c.uses_in-more.ensures)
      ∙ uses_more c.steps.rest.now c.in-Some.first.now c.in-Some.others.now c.steps.uses _ c.in-Some.ensures.cases.0 c.steps.invariant.0,
  weight_others c.steps.rest.now c.in-Some.first.now c.in-Some.others.now _ c.in-Some.ensures.cases.0 c.steps.invariant.1,
)

pub uses_of-returns : goal.uses_of-returns
uses_of-returns t c = uses_last c.steps.rest.now c.steps.uses _ c.in_default.ensures.cases c.steps.invariant.0
