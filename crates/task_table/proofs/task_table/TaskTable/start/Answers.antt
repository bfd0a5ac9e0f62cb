use Rattle.std.proofs.Common.{◌≡◌, arith, [], ◌∷◌, ◌++◌, refl, ap, ◌∙◌}
use Rattle.std.proofs.lemmas.Option.{slice_get_read}
use Rattle.task_table.specs.declared.task_table.TaskTable.{TaskTable}
use Rattle.task_table.specs.TaskTable.{task_count}
use Rattle.task_table.proofs.TaskTables.{Adds, starts, agrees_started}
use Rattle.task_table.proofs.task_table.TaskTable.start.Goals as goal

abbrev after_start : goal.In_ok-push-2 → TaskTable
after_start c = record (c.args.self.now) { live = c.put.new.self; rows = c.push-2.new.self }

adds : (c : goal.In_ok-push-2) → Adds c.args.self.now (after_start c) c.args.parent c.args.task c.args.tick c.in_ok-id.id
adds c =
    let next : c.len-row.result ≡ task_count c.args.self.now = omega (arith, c.args.self.now.rows.ok.0, c.len-row.ensures) in
    record {
      fresh = c.in_ok-id.ensures.fresh;
      live = rw next at c.in_ok-id.ensures.put;
      before = c.index_mut.result.now;
      grown = record c.index_mut.result.now { children = c.push.new.self };
      row = c.new_row.result;
      was = slice_get_read _ _ c.args.parent c.index_mut.result.now refl c.requires.parent c.index_mut.ensures.value;
      same = refl;
      child_is = c.in_ok-push.ensures.items ∙ ap (λ n. c.index_mut.result.now.children.items ++ n ∷ []) next;
      begins = c.new_row.ensures;
      rows = c.in_ok-push-2.ensures.items;
    }

pub returns-clause-started : goal.returns-clause-started
returns-clause-started c = starts c.requires.agree (adds c)

pub returns-clause-agree : goal.returns-clause-agree
returns-clause-agree c = agrees_started c.requires.agree (adds c)
