use Rattle.turn_semantics.proofs.laws.law_step.Goals as goal
use Rattle.turn_semantics.proofs.Turns.{turned_step}

pub returns : goal.returns
returns c = turned_step
