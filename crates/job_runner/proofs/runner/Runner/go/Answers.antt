use Rattle.std.proofs.Common.{arith}
use Rattle.job_runner.proofs.States.{moment_bounded}
use Rattle.job_runner.proofs.TurnsTaken.{may_turn, timers_live, turn_bounded, turn_now, turns_few, row_within, started_now, started_bounded, started_timed, goes_stopping, scopes_sound}
use Rattle.job_runner.proofs.Turns.{goes_on}
use Rattle.job_runner.proofs.runner.Runner.go.Goals as goal

pub turn-requires-clause-may : goal.turn-requires-clause-may
turn-requires-clause-may c =
    let e = c.stacks_are_chains.ensures in
    may_turn c.args.wake c.requires.turning (scopes_sound c.scopes.ensures e.own e.chain e.apart)

pub overflow_add-self : goal.overflow_add-self
overflow_add-self c = let few = turns_few c.args.self.now c.requires.turning in omega (arith, few)

pub turn-requires-clause-tick : goal.turn-requires-clause-tick
turn-requires-clause-tick c = moment_bounded c.requires.turning.shelved.consistent

pub take_started-requires-clause-timers : goal.take_started-requires-clause-timers
take_started-requires-clause-timers c = timers_live c.requires.turning c.in_ok-stop.ensures.turn

pub take_started-requires-clause-now : goal.take_started-requires-clause-now
take_started-requires-clause-now c = turn_now c.requires.turning c.in_ok-stop.ensures.turn

pub take_started-requires-clause-bounded : goal.take_started-requires-clause-bounded
take_started-requires-clause-bounded c = turn_bounded c.requires.turning c.in_ok-stop.ensures.turn

pub take_started-requires-clause-row : goal.take_started-requires-clause-row
take_started-requires-clause-row c = row_within c.args.row c.requires.turning c.requires.row c.in_ok-stop.ensures.turn

pub take_set-requires-clause-now : goal.take_set-requires-clause-now
take_set-requires-clause-now c =
    started_now c.args.self.now c.in_ok-take_started.ensures (turn_now c.requires.turning c.in_ok-stop.ensures.turn)

pub take_set-requires-clause-bounded : goal.take_set-requires-clause-bounded
take_set-requires-clause-bounded c =
    started_bounded c.args.self.now c.in_ok-take_started.ensures (turn_bounded c.requires.turning c.in_ok-stop.ensures.turn)

pub take_set-requires-clause-timed : goal.take_set-requires-clause-timed
take_set-requires-clause-timed c = started_timed c.requires.turning c.in_ok-take_started.ensures

pub returns-clause-stopping : goal.returns-clause-stopping
returns-clause-stopping c =
    let e = c.stacks_are_chains.ensures in
    let f = c.stacks_are_chains-2.ensures in
    goes_stopping c.args.row c.requires.turning c.requires.row c.in_ok-stop.ensures.turn
    (scopes_sound c.scopes.ensures e.own e.chain e.apart) (scopes_sound c.scopes-2.ensures f.own f.chain f.apart)
    c.in_ok-take_started.ensures c.in_ok-take_set.ensures c.in_ok-take_acts.ensures

pub returns-clause-goes : goal.returns-clause-goes
returns-clause-goes c =
    goes_on c.args.row c.take_started.new.self c.requires.row c.in_ok-stop.ensures.turn c.in_ok-take_started.ensures
    c.in_ok-take_set.ensures c.in_ok-take_acts.ensures
