use Rattle.std.proofs.Common.{refl}
use Rattle.task_table.specs.TaskTable.{ended_task_of}
use Rattle.job_runner.proofs.Landing.{none_due, some_moment, next_round_later, past_limit, past_next, not_too_late, no_earlier, none_ready, ready_some, rested_waking, woken_moment, woken_underway}
use Rattle.job_runner.proofs.States.{moment_bounded}
use Rattle.job_runner.proofs.runner.Runner.jump_clock.Goals as goal

pub next_round-next-requires : goal.next_round-next-requires
next_round-next-requires c = moment_bounded c.requires.underway.going.shelved.consistent

pub jump-requires-clause-none_due : goal.jump-requires-clause-none_due
jump-requires-clause-none_due c = none_due c.requires.underway c.requires.blocked c.next_round-next.ensures

pub jump-requires-clause-some : goal.jump-requires-clause-some
jump-requires-clause-some c = some_moment c.requires.underway c.requires.blocked c.next_round-next.ensures

pub jump-requires-clause-later : goal.jump-requires-clause-later
jump-requires-clause-later c = next_round_later c.requires.underway c.requires.blocked c.next_round-next.ensures

pub returns-in-Limit-clause-late : goal.returns-in-Limit-clause-late
returns-in-Limit-clause-late c = past_limit c.requires.underway c.requires.blocked c.next_round-next.ensures c.in-Limit.ensures

pub returns-in-Limit-clause-limit : goal.returns-in-Limit-clause-limit
returns-in-Limit-clause-limit c =
    past_next c.requires.underway c.requires.blocked c.next_round-next.ensures c.args.self.now.limit refl c.in-Limit.ensures

pub set_now-requires-clause-later : goal.set_now-requires-clause-later
set_now-requires-clause-later c = no_earlier c.requires.underway c.requires.blocked c.next_round-next.ensures c.in-To.ensures

pub set_now-requires-clause-bounded : goal.set_now-requires-clause-bounded
set_now-requires-clause-bounded c = not_too_late c.requires.underway c.requires.blocked c.next_round-next.ensures c.in-To.ensures

pub wake_later-requires : goal.wake_later-requires
wake_later-requires c = none_ready c.requires.underway c.requires.blocked c.next_round-next.ensures

pub wake_seen-requires : goal.wake_seen-requires
wake_seen-requires c =
    rested_waking c.requires.underway c.requires.blocked c.next_round-next.ensures c.in-To.ensures c.set_now.new.self c.set_now.ensures
    c.wake_later.new.self.batch c.wake_later.new.self.later c.wake_later.ensures.ready c.wake_later.ensures.none c.wake_later.ensures.rest

pub returns-in_ok-wake_due-in-To-clause-underway : goal.returns-in_ok-wake_due-in-To-clause-underway
returns-in_ok-wake_due-in-To-clause-underway c =
    woken_underway c.requires.underway c.requires.blocked c.next_round-next.ensures c.in-To.ensures c.set_now.new.self c.set_now.ensures
    c.wake_later.new.self.batch c.wake_later.new.self.later c.wake_later.ensures.ready c.wake_later.ensures.none c.wake_later.ensures.rest
    c.in_ok-wake_seen-in-To.ensures.rest c.in_ok-wake_due-in-To.ensures.rest c.in_ok-wake_seen-in-To.ensures.added
    c.in_ok-wake_due-in-To.ensures.added c.in_ok-wake_due-in-To.ensures.shelved c.in_ok-wake_due-in-To.ensures.current
    c.in_ok-wake_due-in-To.ensures.some c.turn_over.new.self c.turn_over.ensures.current c.turn_over.ensures.next c.turn_over.ensures.unplaced

pub returns-in_ok-wake_due-in-To-clause-moment : goal.returns-in_ok-wake_due-in-To-clause-moment
returns-in_ok-wake_due-in-To-clause-moment c =
    woken_moment c.requires.underway c.requires.blocked c.next_round-next.ensures c.in-To.ensures c.set_now.new.self c.set_now.ensures
    c.wake_later.new.self.batch c.wake_later.new.self.later c.wake_later.ensures.ready c.wake_later.ensures.none c.wake_later.ensures.rest
    c.in_ok-wake_seen-in-To.ensures.rest c.in_ok-wake_due-in-To.ensures.rest

pub returns-in_ok-wake_due-in-To-clause-ready : goal.returns-in_ok-wake_due-in-To-clause-ready
returns-in_ok-wake_due-in-To-clause-ready c = ready_some c.turn_over.new.self.current c.wake_due.new.self.batch.next (ended_task_of c.wake_due.new.self.task_table 0)
    c.turn_over.ensures.current c.in_ok-wake_due-in-To.ensures.some
