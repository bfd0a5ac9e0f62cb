use Rattle.svg.proofs.Behind.{one_behind, none_behind}
use Rattle.svg.proofs.culprits.culprit.Goals as goal

pub steps-preserved : goal.steps-preserved
steps-preserved c = one_behind _ _ _ _ _ _ c.steps-test.true c.cause_behind-behind.ensures c.steps.invariant

pub returns : goal.returns
returns c = none_behind _ _ _ _ _ _ c.steps-test.false c.source_of.ensures c.steps.invariant
