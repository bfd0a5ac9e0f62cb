use Rattle.turn_semantics.proofs.laws.law_turn.Goals as goal
use Rattle.turn_semantics.proofs.Waking.{turned_from}
use Rattle.turn_semantics.proofs.Ends.{turn_from_ends}
use Rattle.turn_semantics.proofs.Whole.{turn_comes_to}

pub returns-clause-keeps : goal.returns-clause-keeps
returns-clause-keeps c = turned_from

pub returns-clause-stops : goal.returns-clause-stops
returns-clause-stops c = λ n t here cancelled_from w rest ps count lt. turn_from_ends n t cancelled_from here w rest.stopped rest.frames ps count lt

pub returns-clause-same : goal.returns-clause-same
returns-clause-same c = turn_comes_to
