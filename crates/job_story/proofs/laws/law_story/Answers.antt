use Rattle.job_story.proofs.laws.law_story.Goals as goal
use Rattle.job_story.proofs.Erasing.{telling_is_following, stories_are_true}

pub returns-clause-follows : goal.returns-clause-follows
returns-clause-follows c = telling_is_following

pub returns-clause-truth : goal.returns-clause-truth
returns-clause-truth c = stories_are_true
