use Rattle.interleavings.proofs.laws.law_runs.Goals as goal
use Rattle.interleavings.proofs.Housing.{tasks_are_housed, last_to_leave}
use Rattle.interleavings.proofs.Rounds.{rounds_are_few, rounds_stay_in_ticks}
use Rattle.interleavings.proofs.Running.{runs_keep_invariant, runs_are_the_meaning, limits_are_exact, blocked_runs_go_on, runs_end}

pub returns-clause-interleaving : goal.returns-clause-interleaving
returns-clause-interleaving c = runs_keep_invariant

pub returns-clause-meaning : goal.returns-clause-meaning
returns-clause-meaning c = runs_are_the_meaning

pub returns-clause-limit : goal.returns-clause-limit
returns-clause-limit c = limits_are_exact

pub returns-clause-next : goal.returns-clause-next
returns-clause-next c = blocked_runs_go_on

pub returns-clause-turns : goal.returns-clause-turns
returns-clause-turns c = runs_end

pub returns-clause-housed : goal.returns-clause-housed
returns-clause-housed c = tasks_are_housed

pub returns-clause-last : goal.returns-clause-last
returns-clause-last c = last_to_leave

pub returns-clause-rounds : goal.returns-clause-rounds
returns-clause-rounds c = rounds_are_few

pub returns-clause-room : goal.returns-clause-room
returns-clause-room c = rounds_stay_in_ticks
