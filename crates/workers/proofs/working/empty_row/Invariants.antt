use Rattle.std.proofs.Common.{◌≡◌, replicate}
use Rattle.workers.specs.Slots.{empty_slot}
use Rattle.workers.proofs.working.empty_row.Given as goal

abbrev pub invariant-loop : goal.invariant-loop
invariant-loop l = l.row.items ≡ replicate l.counter empty_slot
