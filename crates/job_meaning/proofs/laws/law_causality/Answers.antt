use Rattle.job_meaning.proofs.laws.law_causality.Goals as goal
use Rattle.job_meaning.proofs.Causality.{nothing_before_its_cause}

pub returns : goal.returns
returns c = nothing_before_its_cause
