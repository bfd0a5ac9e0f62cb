use Rattle.std.proofs.Common.{refl}
use Rattle.task_table.proofs.task_table.new_row.Goals as goal

pub returns : goal.returns
returns c = record { parent = refl; task = refl; start = refl; children = c.new.ensures.items; end = refl }
