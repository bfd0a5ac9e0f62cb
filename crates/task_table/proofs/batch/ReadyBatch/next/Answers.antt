use Rattle.std.proofs.Common.{subst, sym}
use Rattle.task_table.specs.Entries.{AllPlaced}
use Rattle.task_table.proofs.EntryLemmas.{placed_after}
use Rattle.task_table.proofs.batch.ReadyBatch.next.Goals as goal

pub returns-clause-placed : goal.returns-clause-placed
returns-clause-placed g c =
    subst AllPlaced (sym c.take-entry.ensures.rest) (placed_after c.args.self.now.current _ c.requires)
