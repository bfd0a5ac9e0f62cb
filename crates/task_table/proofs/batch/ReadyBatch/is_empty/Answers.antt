use Rattle.task_table.proofs.BatchLemmas.{nothing_left}
use Rattle.task_table.proofs.batch.ReadyBatch.is_empty.Goals as goal

pub returns : goal.returns
returns c = nothing_left c.args.self.now.current c.count_left.result c.count_left.ensures
