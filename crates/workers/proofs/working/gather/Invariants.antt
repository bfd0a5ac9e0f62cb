use Rattle.std.proofs.Common.{All, ◌≡◌, ◌+◌, vec_len, length, true, false}
use Rattle.workers.specs.Claims.{IsPassOf, is_spent}
use Rattle.workers.specs.WorkerStates.{IsFinished, AreGathered}
use Rattle.workers.proofs.working.gather.Given as goal

abbrev pub invariant-loop-worker_state : goal.invariant-loop-worker_state
invariant-loop-worker_state l = record {
  count : vec_len l.gathered.passes + length l.worker_state-iterator.rest.items ≡ vec_len l.fn.worker_states;
  left : All (IsFinished l.requests l.claims) l.worker_state-iterator.rest.items;
  passes : All (λ pass. IsPassOf l.claims pass × (is_spent pass ≡ true)) l.gathered.passes.items;
  answered : l.gathered.refused ≡ false → AreGathered l.requests l.gathered.passes.items l.gathered.answered.items;
}
