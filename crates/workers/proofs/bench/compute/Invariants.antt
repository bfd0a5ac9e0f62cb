use Rattle.std.proofs.Common.{◌≡◌, length}
use Rattle.workers.proofs.SlotLemmas.{ComputedBelow}
use Rattle.workers.proofs.bench.compute.Given as goal

abbrev pub invariant-loop-i : goal.invariant-loop-i
invariant-loop-i l = record {
  count : length l.row ≡ length l.initial.row;
  done : ComputedBelow l.i l.requests l.row;
}
