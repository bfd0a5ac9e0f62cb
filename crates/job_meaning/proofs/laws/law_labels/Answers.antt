use Rattle.job_meaning.proofs.laws.law_labels.Goals as goal
use Rattle.job_meaning.proofs.Once.{labels_once}

pub returns : goal.returns
returns c = labels_once
