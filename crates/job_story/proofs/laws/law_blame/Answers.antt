use Rattle.job_story.proofs.Blamed.{cancellations_are_seen}
use Rattle.job_story.proofs.laws.law_blame.Goals as goal

pub returns : goal.returns
returns c = cancellations_are_seen
