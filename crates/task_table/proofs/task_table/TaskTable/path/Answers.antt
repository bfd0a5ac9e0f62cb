use Rattle.std.proofs.Common.{refl, ap, arith}
use Rattle.std.proofs.lemmas.Option.{slice_get_read}
use Rattle.task_table.specs.TaskTable.{parent_by}
use Rattle.task_table.proofs.PathLemmas.{path_pushed}
use Rattle.task_table.proofs.task_table.TaskTable.path.Goals as goal

pub upwards-preserved : goal.upwards-preserved
upwards-preserved c =
    let r = c.args.self.now in
    let pushed =
    path_pushed r c.args.row c.upwards.at c.index.result.now.parent c.upwards.path.items c.push.new.self.items c.requires.agree (omega arith)
    c.upwards.invariant.below
    (ap parent_by (slice_get_read r.rows.items _ c.upwards.at c.index.result.now refl c.upwards.invariant.below c.index.ensures)) c.in_ok-push.ensures.items
    c.upwards.invariant.so_far in
    record { below = pushed.0; so_far = pushed.1 }
