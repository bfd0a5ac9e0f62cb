use Rattle.std.proofs.Common.{refl}
use Rattle.task_table.specs.TaskTable.{running_at}
use Rattle.job_runner.specs.declared.runner.Runner.{Runner}
use Rattle.job_runner.proofs.AtOnce.{scope_opened}
use Rattle.job_runner.proofs.Stopped.{put_in_none, put_in_scope}
use Rattle.job_runner.proofs.runner.Runner.put_to_sleep.Goals as goal

pub seen_from-sight-requires : goal.seen_from-sight-requires
seen_from-sight-requires c =
    let r = c.args.self.now in
    rw c.scopes.ensures
    (scope_opened (running_at r.task_table c.args.id) r.world.scopes c.scope.result c.in-Some.scope c.requires.lives c.requires.opened
    c.scope.ensures c.in-Some.is)

abbrev after_add : goal.In_ok-add → Runner
after_add c = record (c.args.self.now) { clock = c.sleep_until.new.self; sleepers = c.add.new.self }

pub returns-in_ok-add : goal.returns-in_ok-add
returns-in_ok-add c =
    let sees = rw c.scopes.ensures at c.seen_from-sight.ensures in
    record {
      timers = c.in_ok-sleep_until.ensures.timers;
      time = c.in_ok-sleep_until.ensures.time;
      sleeps = λ x lives.
          put_in_scope c.args.self.now (after_add c) c.args.id c.in-Some.scope c.scope.result _ c.seen_from-sight.result
          (c.scope.ensures x lives) c.in-Some.is sees c.in_ok-add.ensures.scopes c.in_ok-add.ensures.sights;
      rest = refl;
    }

abbrev without_scope : goal.In_default → Runner
without_scope c = record (c.args.self.now) { clock = c.sleep_until.new.self }

pub returns-in_default : goal.returns-in_default
returns-in_default c =
    record {
      timers = c.in_ok-sleep_until.ensures.timers;
      time = c.in_ok-sleep_until.ensures.time;
      sleeps = λ x lives.
          put_in_none c.args.self.now (without_scope c) c.args.id c.scope.result _ (c.scope.ensures x lives) c.in_default.is refl;
      rest = refl;
    }
