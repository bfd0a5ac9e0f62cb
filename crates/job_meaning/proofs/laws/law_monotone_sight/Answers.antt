use Rattle.job_meaning.proofs.laws.law_monotone_sight.Goals as goal
use Rattle.job_meaning.proofs.Ticks.{stays_seen, lowering_shows}

pub returns-clause-later : goal.returns-clause-later
returns-clause-later c = stays_seen

pub returns-clause-lowered : goal.returns-clause-lowered
returns-clause-lowered c = lowering_shows
