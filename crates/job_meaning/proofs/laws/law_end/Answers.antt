use Rattle.job_meaning.proofs.Ends.{ends_by_the_last_tick}
use Rattle.job_meaning.proofs.laws.law_end.Goals as goal

pub returns : goal.returns
returns c = ends_by_the_last_tick
