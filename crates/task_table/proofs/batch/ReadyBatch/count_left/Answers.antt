use Rattle.std.proofs.Common.{ap, length, ◌∙◌}
use Rattle.task_table.specs.Batch.{Batches}
use Rattle.task_table.proofs.BatchLemmas.{left_count}
use Rattle.task_table.proofs.batch.ReadyBatch.count_left.Goals as goal

pub returns : goal.returns
returns c =
    let b = c.self.inside in
    c.len.ensures ∙ left_count b.current.items b.next.items b.places c.self.invariant
    ∙ ap (λ (v : Batches). length v.current) c.self.view_is
