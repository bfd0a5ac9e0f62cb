use Rattle.job_story.proofs.Closing.{concerned_tasks_are_closed}
use Rattle.job_story.proofs.laws.law_focus.Goals as goal

pub returns : goal.returns
returns c = concerned_tasks_are_closed
