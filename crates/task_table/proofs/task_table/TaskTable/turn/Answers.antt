use Rattle.std.proofs.Common.{◌≡◌, Some, refl, sym}
use Rattle.task_table.proofs.LiveLemmas.{UpdatesLive-with_live}
use Rattle.task_table.specs.Lending.{with_live}
use Rattle.task_table.specs.declared.task_table.Running.{Running}
use Rattle.task_table.specs.declared.task_table.TaskTable.{TaskTable}
use Rattle.task_table.specs.TaskTable.{running_at}
use Rattle.task_table.proofs.TaskTables.{turned_same, turned_task, agrees_turned}
use Rattle.task_table.proofs.task_table.TaskTable.turn.Goals as goal

pub turn-requires-clause-task_state : goal.turn-requires-clause-task_state
turn-requires-clause-task_state c = (c.requires.may c.in-Some.running.now (sym c.in-Some.ensures.value)).in_range

pub returns-clause-turn : goal.returns-clause-turn
returns-clause-turn c =
    let old : TaskTable = c.args.self.now in
    let x : Running = c.in-Some.running.now in
    let y : Running = record { task = c.turn.new.self; row = x.row } in
    let new : TaskTable = record old { live = with_live old.live c.args.id y } in
    let lived : running_at old c.args.id ≡ Some x = sym c.in-Some.ensures.value in
    let live = UpdatesLive-with_live old.live c.args.id y c.requires.lives in
    record {
      row = x.row;
      before = x.task;
      after = c.turn.new.self;
      lived = lived;
      lives = live.changed;
      others = live.others;
      task = turned_task old new c.args.id x y c.requires.agree lived live refl refl;
      same = turned_same old new c.args.id x y c.requires.agree lived live refl refl;
      ended_task = refl;
      keeps = c.in_ok-stop-in-Some.ensures.keeps;
      fits = c.in_ok-stop-in-Some.ensures.fits;
      turn = c.in_ok-stop-in-Some.ensures.turn;
    }

pub returns-clause-agree : goal.returns-clause-agree
returns-clause-agree c =
    let old : TaskTable = c.args.self.now in
    let x : Running = c.in-Some.running.now in
    let y : Running = record { task = c.turn.new.self; row = x.row } in
    let new : TaskTable = record old { live = with_live old.live c.args.id y } in
    agrees_turned old new c.args.id x y c.requires.agree (sym c.in-Some.ensures.value)
    (UpdatesLive-with_live old.live c.args.id y c.requires.lives) refl refl
