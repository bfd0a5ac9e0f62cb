use Rattle.std.proofs.Common.{refl, ap, ◌∙◌}
use Rattle.task_table.specs.declared.rows.TaskRow.{TaskRow}
use Rattle.task_table.proofs.rows.take_row.Goals as goal

pub returns-clause-left : goal.returns-clause-left
returns-clause-left c = record {
  hollow = c.replace.new.dest;
  childless = ap (λ (r : TaskRow). r.children.items) c.replace.ensures.after ∙ c.new.ensures.items;
  endless = ap (λ (r : TaskRow). r.end) c.replace.ensures.after;
  set = refl;
}
