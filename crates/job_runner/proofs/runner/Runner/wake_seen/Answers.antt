use Rattle.std.proofs.Common.{refl}
use Rattle.job_runner.specs.declared.runner.Runner.{Runner}
use Rattle.job_runner.proofs.Waking.{WakesOne, seeing_first, seer_lives, seer_timed, seer_within, seeing_next, seeing_fewer, seen_waking, seen_unseen, seen_added, seen_only}
use Rattle.job_runner.proofs.runner.Runner.wake_seen.Goals as goal

abbrev after_wake : goal.In_ok-add → Runner
after_wake c = record (c.seen.self) {
  clock = c.wake.new.self;
  sleepers = c.take_seen.new.self;
  waiters = c.remove.new.self;
  batch = c.add.new.self;
}

wakes_one : (c : goal.In_ok-add) → WakesOne c.seen.self (after_wake c) c.in-Some.id c.seen_call-call.result
wakes_one c = record {
  timers = c.wake.ensures.timers;
  time = c.wake.ensures.time;
  scopes = c.in-Some.ensures.scopes;
  sights = c.in-Some.ensures.sights;
  waiters = c.remove.ensures;
  current = c.in_ok-add.ensures.current;
  next = c.in_ok-add.ensures.added;
  only = refl;
}

pub seen-init : goal.seen-init
seen-init c = seeing_first c.args.self.now c.requires

pub wake-requires : goal.wake-requires
wake-requires c =
    let takes = rw c.now.ensures at c.in-Some.ensures in
    seer_timed c.seen.invariant takes

pub seen_call-call-requires-clause-lives : goal.seen_call-call-requires-clause-lives
seen_call-call-requires-clause-lives c =
    let takes = rw c.now.ensures at c.in-Some.ensures in
    seer_lives c.seen.invariant takes

pub seen_call-call-requires-clause-within : goal.seen_call-call-requires-clause-within
seen_call-call-requires-clause-within c =
    let takes = rw c.now.ensures at c.in-Some.ensures in
    seer_within c.seen.invariant takes

pub seen-smaller : goal.seen-smaller
seen-smaller c =
    let takes = rw c.now.ensures at c.in-Some.ensures in
    seeing_fewer c.seen.invariant takes c.seen_call-call.ensures (wakes_one c)

pub seen-preserved : goal.seen-preserved
seen-preserved c =
    let takes = rw c.now.ensures at c.in-Some.ensures in
    seeing_next c.seen.invariant takes c.seen_call-call.ensures (wakes_one c)

pub returns-clause-waking : goal.returns-clause-waking
returns-clause-waking c =
    let none = rw c.now.ensures at c.in_default.ensures in
    seen_waking c.take_seen.new.self c.seen.invariant none

pub returns-clause-unseen : goal.returns-clause-unseen
returns-clause-unseen c =
    let none = rw c.now.ensures at c.in_default.ensures in
    seen_unseen c.take_seen.new.self c.seen.invariant none

pub returns-clause-rest : goal.returns-clause-rest
returns-clause-rest c =
    let none = rw c.now.ensures at c.in_default.ensures in
    seen_only c.take_seen.new.self c.seen.invariant none

pub returns-clause-added : goal.returns-clause-added
returns-clause-added c =
    let none = rw c.now.ensures at c.in_default.ensures in
    seen_added c.take_seen.new.self c.seen.invariant none
