use Rattle.std.proofs.Common.{refl}
use Rattle.task_table.specs.declared.entry.Call.TheVariants.{Due}
use Rattle.job_runner.specs.declared.runner.Runner.{Runner}
use Rattle.job_runner.proofs.Waking.{WakesOne, due_first, due_next, due_fewer, due_shelved, due_some, due_added, due_only}
use Rattle.job_runner.proofs.runner.Runner.wake_due.Goals as goal

abbrev after_wake : goal.In_ok-add → Runner
after_wake c = record (c.due.self) {
  clock = c.take_due.new.self;
  sleepers = c.remove.new.self;
  waiters = c.remove-in-Some.new.self;
  batch = c.add.new.self;
}

wakes_one : (c : goal.In_ok-add) → WakesOne c.due.self (after_wake c) c.in-Some.id Due
wakes_one c = record {
  timers = c.in-Some.ensures.timers;
  time = c.in-Some.ensures.time;
  scopes = c.remove.ensures.scopes;
  sights = c.remove.ensures.sights;
  waiters = c.remove-in-Some.ensures;
  current = c.in_ok-add.ensures.current;
  next = c.in_ok-add.ensures.added;
  only = refl;
}

pub due-init : goal.due-init
due-init c = due_first c.args.self.now c.requires.waking c.requires.unseen

pub due-smaller : goal.due-smaller
due-smaller c = due_fewer c.due.invariant c.in-Some.ensures (wakes_one c)

pub due-preserved : goal.due-preserved
due-preserved c = due_next c.due.invariant c.in-Some.ensures (wakes_one c)

pub returns-clause-shelved : goal.returns-clause-shelved
returns-clause-shelved c = due_shelved c.take_due.new.self c.due.invariant c.in_default.ensures

pub returns-clause-some : goal.returns-clause-some
returns-clause-some c = due_some c.take_due.new.self c.due.invariant c.in_default.ensures

pub returns-clause-current : goal.returns-clause-current
returns-clause-current c = c.due.invariant.waking.none_current

pub returns-clause-rest : goal.returns-clause-rest
returns-clause-rest c = due_only c.take_due.new.self c.due.invariant c.in_default.ensures

pub returns-clause-added : goal.returns-clause-added
returns-clause-added c = due_added c.take_due.new.self c.due.invariant c.in_default.ensures
