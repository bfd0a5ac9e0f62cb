use Rattle.job_meaning.proofs.laws.law_settled_table.Goals as goal
use Rattle.job_meaning.proofs.Settled.{following_is_meaning, table_is_settled, settled_is_meaning, one_table_is_settled}

pub returns-clause-follow : goal.returns-clause-follow
returns-clause-follow c = following_is_meaning

pub returns-clause-settled : goal.returns-clause-settled
returns-clause-settled c = table_is_settled

pub returns-clause-all : goal.returns-clause-all
returns-clause-all c = settled_is_meaning

pub returns-clause-one : goal.returns-clause-one
returns-clause-one c = one_table_is_settled
