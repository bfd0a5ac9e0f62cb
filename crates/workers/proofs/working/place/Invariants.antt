use Rattle.std.proofs.Common.{All, ◌≡◌, length}
use Rattle.workers.specs.WorkerStates.{IsRight}
use Rattle.workers.proofs.WorkerStateLemmas.{ComputedBut}
use Rattle.workers.proofs.working.place.Given as goal

abbrev pub invariant-loop-numbered : goal.invariant-loop-numbered
invariant-loop-numbered l = record {
  count : length l.row ≡ length l.fn.requests;
  right : All (IsRight l.fn.requests) l.numbered-iterator.rest.items;
  computed : ComputedBut l.fn.requests l.numbered-iterator.rest.items l.row;
}
