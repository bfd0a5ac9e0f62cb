use Rattle.job_runner.proofs.WokenWaiters.{set_none, taking_timed, taking_now, taking_bounded, set_fewer, set_more, set_all}
use Rattle.job_runner.proofs.runner.Runner.take_set.Goals as goal

pub set-init : goal.set-init
set-init c = set_none c.args.self.now

pub wake_waiters-requires-clause-timed : goal.wake_waiters-requires-clause-timed
wake_waiters-requires-clause-timed c = taking_timed c.set.invariant c.requires.timed

pub wake_waiters-requires-clause-now : goal.wake_waiters-requires-clause-now
wake_waiters-requires-clause-now c = taking_now c.set.invariant c.take_set.new.self c.take_set.ensures.rest c.requires.now

pub wake_waiters-requires-clause-bounded : goal.wake_waiters-requires-clause-bounded
wake_waiters-requires-clause-bounded c = taking_bounded c.set.invariant c.take_set.new.self c.take_set.ensures.rest c.requires.bounded

pub set-smaller : goal.set-smaller
set-smaller c =
    set_fewer c.set.invariant c.take_set.new.self c.take_set.ensures.rest c.in-Some.event c.in-Some.ensures.event
    c.in_ok-wake_waiters.ensures

pub set-preserved : goal.set-preserved
set-preserved c =
    set_more c.set.invariant c.take_set.new.self c.take_set.ensures.rest c.in-Some.event c.in-Some.ensures.event
    c.in_ok-wake_waiters.ensures

pub returns : goal.returns
returns c = set_all c.set.invariant c.take_set.new.self c.in_default.ensures.rest c.in_default.ensures.event.0 c.in_default.ensures.event.1
