use Rattle.job_reader.proofs.Passing.{one_spelled}
use Rattle.job_reader.proofs.laws.spells_one_job.Goals as goal

pub returns : goal.returns
returns c = one_spelled
