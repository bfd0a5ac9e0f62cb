use Rattle.turn_semantics.proofs.laws.law_names.Goals as goal
use Rattle.turn_semantics.proofs.Names.{new_job, step_stays_new, turn_stays_new}

pub returns-clause-job : goal.returns-clause-job
returns-clause-job c = new_job

pub returns-clause-step : goal.returns-clause-step
returns-clause-step c = step_stays_new

pub returns-clause-turn : goal.returns-clause-turn
returns-clause-turn c = turn_stays_new
