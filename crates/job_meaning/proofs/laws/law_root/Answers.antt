use Rattle.job_meaning.proofs.laws.law_root.Goals as goal
use Rattle.job_meaning.proofs.Root.{cancelled_is_seen, none_reaches_the_root}

pub returns-clause-walks : goal.returns-clause-walks
returns-clause-walks c = cancelled_is_seen

pub returns-clause-jobs : goal.returns-clause-jobs
returns-clause-jobs c = none_reaches_the_root
