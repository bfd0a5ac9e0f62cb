use Rattle.std.proofs.Common.{◌≡◌, ◌++◌, Some, map}
use Rattle.workers.proofs.slots.answers_in.Given as goal

abbrev pub invariant-loop-slot : goal.invariant-loop-slot
invariant-loop-slot g l = map Some l.answers.items ++ l.slot-iterator.rest.items ≡ l.fn.slots.items
