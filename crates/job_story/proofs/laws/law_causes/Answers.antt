use Rattle.job_story.proofs.Found.{causes_are_shown}
use Rattle.job_story.proofs.Caused.{cancelled_from_has_causes, cancellations_have_causes}
use Rattle.job_story.proofs.Limited.{cancellations_have_causes_by_limit}
use Rattle.job_story.proofs.laws.law_causes.Goals as goal

pub returns-clause-shown : goal.returns-clause-shown
returns-clause-shown c = causes_are_shown

pub returns-clause-complete : goal.returns-clause-complete
returns-clause-complete c = cancellations_have_causes

pub returns-clause-cancelled_from : goal.returns-clause-cancelled_from
returns-clause-cancelled_from c = cancelled_from_has_causes

pub returns-clause-limited : goal.returns-clause-limited
returns-clause-limited c = cancellations_have_causes_by_limit
