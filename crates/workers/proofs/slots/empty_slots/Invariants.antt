use Rattle.std.proofs.Common.{◌≡◌, length}
use Rattle.workers.proofs.slots.empty_slots.Given as goal

abbrev pub invariant-loop : goal.invariant-loop
invariant-loop g l = length l.slots.items ≡ l.counter
