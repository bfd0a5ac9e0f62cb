use Rattle.std.proofs.Common.{◌≡◌, ◌++◌, take, drop, length}
use Rattle.std.specs.Vec.Iter.{into_iter_items, into_iter_len}
use Rattle.task_table.specs.Placing.{slots_placed}
use Rattle.task_table.proofs.slots.place_all.Given as goal

abbrev pub invariant-slots : goal.invariant-slots
invariant-slots l = record {
  placed : slots_placed l.fn.slots l.fn.answers.items ≡ take l.slot-index l.slots
      ++ slots_placed (drop l.slot-index l.slots) (into_iter_items l.answers);
  len : into_iter_len l.answers ≡ length (into_iter_items l.answers);
}
