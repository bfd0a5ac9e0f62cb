use Rattle.std.proofs.Common.{arith, ◌≡◌, ◌∷◌, [], length, length-append, All, ap, sym, subst, true}
use Rattle.std.proofs.lemmas.List.Elements.{All-head, All-push, All-rest}
use Rattle.workers.specs.declared.worker.Pass.{Pass}
use Rattle.workers.specs.Claims.{IsPassOf, is_spent}
use Rattle.workers.specs.WorkerStates.{IsFinished}
use Rattle.workers.proofs.WorkerStateLemmas.{gathered-one_more}
use Rattle.workers.proofs.working.gather.Goals as goal

pub loop-worker_state-preserved : goal.loop-worker_state-preserved
loop-worker_state-preserved c =
    let before = c.loop-worker_state.invariant in
    let requests = c.args.requests.now in
    let claims = c.args.claims.now in
    let rest = c.loop-worker_state.worker_state-iterator.rest.items in
    let left = c.next.new.self.rest.items in
    let worker_state = c.in-Some.worker_state in
    let next = c.in-Some.ensures.steps.0 in
    let passes = c.loop-worker_state.gathered.passes.items in
    let pushed = c.in_ok-take.ensures.passes in
    let this = All-head (IsFinished requests claims) worker_state left (subst (All (IsFinished requests claims)) next before.left) in
    let IsSpent : Pass → Type 0 = λ pass. IsPassOf claims pass × (is_spent pass ≡ true) in
    record {
      count =
          (let longer = ap length pushed in
          let one = length-append passes (worker_state.pass ∷ []) in
          let shorter = ap length next in
          let was = before.count in
          omega arith);
      left = All-rest (IsFinished requests claims) worker_state left rest next before.left;
      passes = subst (All IsSpent) (sym pushed) (All-push IsSpent passes worker_state.pass before.passes (this.pass, this.spent));
      answered =
          λ fits.
          let was = c.in_ok-take.ensures.refused fits in
          gathered-one_more requests passes _ worker_state.pass _ _ worker_state.answered.items (before.answered was.0) (this.answered was.1) pushed
          c.in_ok-take.ensures.answered;
    }
