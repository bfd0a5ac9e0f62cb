use Rattle.turn_semantics.proofs.laws.law_cancelled_from.Goals as goal
use Rattle.turn_semantics.proofs.CancelledFrom.{from_lowered, from_opened}

pub returns-clause-lowered : goal.returns-clause-lowered
returns-clause-lowered c = from_lowered

pub returns-clause-opened : goal.returns-clause-opened
returns-clause-opened c = from_opened
