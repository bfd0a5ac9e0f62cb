use Rattle.job_story.proofs.Woken.{time_passes_asleep}
use Rattle.job_story.proofs.laws.law_waking.Goals as goal

pub returns : goal.returns
returns c = time_passes_asleep
