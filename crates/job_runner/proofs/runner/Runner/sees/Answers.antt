use Rattle.std.proofs.Common.{sym, ◌∙◌}
use Rattle.task_machine.specs.Tasks.{scope_of}
use Rattle.task_table.specs.TaskTable.{running_at}
use Rattle.job_runner.proofs.AtOnce.{scope_opened, sees_in, sees_nothing}
use Rattle.job_runner.proofs.runner.Runner.sees.Goals as goal

pub seen-requires : goal.seen-requires
seen-requires c =
    let r = c.args.self.now in
    rw c.scopes.ensures
    (scope_opened (running_at r.task_table c.args.id) r.world.scopes c.scope.result c.in-Some.scope c.requires.lives c.requires.opened
    c.scope.ensures c.in-Some.is)

pub returns-in-Some : goal.returns-in-Some
returns-in-Some c x lives =
    let r = c.args.self.now in
    let opened = scope_opened (running_at r.task_table c.args.id) r.world.scopes c.scope.result c.in-Some.scope c.requires.lives
    c.requires.opened c.scope.ensures c.in-Some.is in
    let tells = rw (c.scopes.ensures, c.now.ensures) at c.seen.ensures in
    sees_in r.world.scopes (scope_of x.task) c.in-Some.scope r.world.tick c.seen.result (sym (c.scope.ensures x lives) ∙ c.in-Some.is) opened
    tells

pub returns-in-None : goal.returns-in-None
returns-in-None c x lives =
    let r = c.args.self.now in
    sees_nothing r.world.scopes (scope_of x.task) r.world.tick (sym (c.scope.ensures x lives) ∙ c.in-None.is)
