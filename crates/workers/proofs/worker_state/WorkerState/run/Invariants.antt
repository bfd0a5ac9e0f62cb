use Rattle.std.proofs.Common.{◌≡◌, ◌-◌, length, false}
use Rattle.workers.specs.Claims.{IsPassOf, drawn_by, is_spent}
use Rattle.workers.specs.WorkerStates.{AreDrawn}
use Rattle.workers.proofs.WorkerStateLemmas.{top}
use Rattle.workers.proofs.worker_state.WorkerState.run.Given as goal

abbrev pub invariant-draws : goal.invariant-draws
invariant-draws g l = record {
  pass : IsPassOf l.claims l.self.pass;
  unspent : is_spent l.self.pass ≡ false;
  answered : l.self.refused ≡ false → AreDrawn l.requests (drawn_by l.self.pass) l.self.answered.items;
}

abbrev pub decreases-draws : goal.decreases-draws
decreases-draws g l = length l.requests - top (drawn_by l.self.pass)
