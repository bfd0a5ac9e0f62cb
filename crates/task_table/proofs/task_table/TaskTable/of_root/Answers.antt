use Rattle.std.proofs.Common.{◌∷◌, ◌++◌, [], List, ap, ◌∙◌}
use Rattle.task_table.specs.declared.rows.TaskRow.{TaskRow}
use Rattle.task_table.specs.declared.task_table.TaskTable.{TaskTable}
use Rattle.task_table.proofs.TaskTables.{First, has_root, agrees_first}
use Rattle.task_table.proofs.task_table.TaskTable.of_root.Goals as goal

abbrev root_table : goal.In_ok-push → TaskTable
root_table c = record { alloc = c.args.alloc; live = c.put.new.self; rows = c.push.new.self }

first : (c : goal.In_ok-push) → First (root_table c) c.args.task c.in_ok-id.id
first c = record {
  none = c.new-live.result;
  nothing = c.new-live.ensures;
  live = c.in_ok-id.ensures.put;
  row = c.new_row.result;
  begins = c.new_row.ensures;
  rows = c.in_ok-push.ensures.items ∙ ap (λ (xs : List TaskRow). xs ++ c.new_row.result ∷ []) c.new-rows.ensures.items;
}

pub returns-clause-root : goal.returns-clause-root
returns-clause-root c = has_root (first c)

pub returns-clause-agree : goal.returns-clause-agree
returns-clause-agree c = agrees_first (first c)
