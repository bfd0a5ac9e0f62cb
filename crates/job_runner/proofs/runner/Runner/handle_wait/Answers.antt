use Rattle.job_runner.proofs.States.{moment_bounded}
use Rattle.job_runner.proofs.Stopped.{not_timed, settles_going, awaits_going, waits_there}
use Rattle.job_runner.proofs.runner.Runner.handle_wait.Goals as goal

pub settled-requires : goal.settled-requires
settled-requires c = waits_there c.requires c.book.result.now c.book.ensures

pub ready-requires-clause-awake : goal.ready-requires-clause-awake
ready-requires-clause-awake c = not_timed c.requires

pub ready-requires-clause-bounded : goal.ready-requires-clause-bounded
ready-requires-clause-bounded c = moment_bounded c.requires.shelved.consistent

pub returns-in_ok-ready-clause-going : goal.returns-in_ok-ready-clause-going
returns-in_ok-ready-clause-going c =
    let tells = rw c.book.ensures at c.settled.ensures in
    settles_going c.requires c.settled.result tells c.if-settled.true c.in_ok-ready.ensures

pub returns-else-settled-clause-going : goal.returns-else-settled-clause-going
returns-else-settled-clause-going c =
    let tells = rw c.book.ensures at c.settled.ensures in
    awaits_going c.requires c.settled.result tells c.if-settled.false
