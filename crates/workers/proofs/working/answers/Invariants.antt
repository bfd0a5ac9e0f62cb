use Rattle.std.proofs.Common.{◌≡◌, map, All, ◌++◌}
use Rattle.workers.specs.Slots.{IsFilled, slot_of}
use Rattle.workers.proofs.working.answers.Given as goal

abbrev pub invariant-loop-slot : goal.invariant-loop-slot
invariant-loop-slot l = record {
  taken : map slot_of l.answers.items ++ l.slot-iterator.rest.items ≡ l.fn.row.items;
  filled : All IsFilled l.slot-iterator.rest.items;
}
