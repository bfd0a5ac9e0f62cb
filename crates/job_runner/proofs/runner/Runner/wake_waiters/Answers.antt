use Rattle.std.proofs.Common.{◌≡◌, suc, ◌+◌, arith}
use Rattle.job_runner.proofs.WokenWaiters.{waking_none, taken_timed, waiting_fewer, waking_more, waking_all, waking_now}
use Rattle.job_runner.proofs.runner.Runner.wake_waiters.Goals as goal

pub waiters-init : goal.waiters-init
waiters-init c = waking_none c.args.event (suc c.args.self.now.world.tick) c.args.self.now

pub wake-requires : goal.wake-requires
wake-requires c = taken_timed c.waiters.invariant c.requires.timed c.in-Some.ensures

pub sleep_until-requires-clause-later : goal.sleep_until-requires-clause-later
sleep_until-requires-clause-later c =
    let now = c.now-due.ensures in
    let is = waking_now c.waiters.invariant c.wake.ensures.time c.requires.now in
    omega (arith, now, is)

pub waiters-smaller : goal.waiters-smaller
waiters-smaller c = waiting_fewer c.waiters.invariant c.requires.timed c.in-Some.ensures

pub waiters-preserved : goal.waiters-preserved
waiters-preserved c =
    let now = c.now-due.ensures in
    let due : c.now-due.result + 1 ≡ suc c.args.self.now.world.tick = omega (arith, now) in
    waking_more c.waiters.invariant c.requires.timed c.in-Some.ensures c.wake.ensures.timers c.wake.ensures.time
    (rw due at c.in_ok-sleep_until.ensures.timers) c.in_ok-sleep_until.ensures.time

pub returns : goal.returns
returns c = waking_all c.take.new.self c.waiters.invariant c.in_default.ensures
