use Rattle.std.proofs.Common.{◌≡◌, [], All}
use Rattle.workers.specs.Claims.{IsPassOf}
use Rattle.workers.proofs.GatherLemmas.{Gathered}
use Rattle.workers.proofs.batch.Claims.close.Given as goal

abbrev pub invariant-joins : goal.invariant-joins
invariant-joins l =
    (l.all.seat.table_id ≡ l.fn.self.word.shared.table_id)
    × (l.all.seat.me.1 ≡ [])
    × All (IsPassOf l.fn.self) l.passes.items
    × Gathered l.all.seat.me.0 l.passes.items l.fn.passes.items

abbrev pub decreases-joins : goal.decreases-joins
decreases-joins l = goal.left-joins l
