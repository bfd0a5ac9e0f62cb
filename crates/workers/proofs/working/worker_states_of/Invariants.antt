use Rattle.std.proofs.Common.{All, ◌≡◌, ◌+◌, vec_len, length, false, []}
use Rattle.workers.specs.Claims.{IsPassOf, drawn_by, is_spent}
use Rattle.workers.specs.WorkerStates.{IsFresh}
use Rattle.workers.proofs.working.worker_states_of.Given as goal

abbrev pub invariant-loop-pass : goal.invariant-loop-pass
invariant-loop-pass l = record {
  count : vec_len l.worker_states + length l.pass-iterator.rest.items ≡ vec_len l.fn.passes;
  left : All (λ pass. IsPassOf l.claims pass × (drawn_by pass ≡ []) × (is_spent pass ≡ false)) l.pass-iterator.rest.items;
  fresh : All (IsFresh l.claims) l.worker_states.items;
}
