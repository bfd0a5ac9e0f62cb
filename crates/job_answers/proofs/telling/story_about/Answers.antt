use Rattle.std.proofs.Common.{rules, refl}
use Rattle.job_answers.proofs.Stories.{story_about_one, story_about_none}
use Rattle.job_answers.proofs.telling.story_about.Goals as goal

pub returns-in_ok-bytes-in-Task : goal.returns-in_ok-bytes-in-Task
returns-in_ok-bytes-in-Task c =
    story_about_one _ _ _ _ _ _ _ _ _ _ c.in_ok-about_of.ensures c.in-Task.is c.verdict-in-Task.ensures c.in_ok-bytes-in-Task.ensures

pub returns-in-NoTask : goal.returns-in-NoTask
returns-in-NoTask c = story_about_none _ _ _ _ _ _ _ _ _ _ c.in_ok-about_of.ensures c.in-NoTask.is refl (search rules)
