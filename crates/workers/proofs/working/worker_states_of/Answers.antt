use Rattle.std.proofs.Common.{arith, ◌≡◌, ◌∙◌, ◌∷◌, [], length, length-append, All, ap, sym, subst, false}
use Rattle.std.proofs.lemmas.List.Elements.{All-head, All-push, All-rest}
use Rattle.workers.specs.declared.worker.Pass.{Pass}
use Rattle.workers.specs.Claims.{IsPassOf, drawn_by, is_spent}
use Rattle.workers.specs.WorkerStates.{IsFresh}
use Rattle.workers.proofs.working.worker_states_of.Goals as goal

pub loop-pass-preserved : goal.loop-pass-preserved
loop-pass-preserved c =
    let before = c.loop-pass.invariant in
    let claims = c.args.claims.now in
    let rest = c.loop-pass.pass-iterator.rest.items in
    let left = c.next.new.self.rest.items in
    let pass = c.in-Some.pass in
    let next = c.in-Some.ensures.steps.0 in
    let worker_states = c.loop-pass.worker_states.items in
    let worker_state = c.new.result in
    let pushed = c.in_ok-push.ensures.items in
    let IsUnused : Pass → Type 0 = λ pass. IsPassOf claims pass × (drawn_by pass ≡ []) × (is_spent pass ≡ false) in
    let this = All-head IsUnused pass left (subst (All IsUnused) next before.left) in
    let same = c.new.ensures.pass in
    let fresh : IsFresh claims worker_state =
    record {
      pass = subst (IsPassOf claims) (sym same) this.0;
      unspent = ap is_spent same ∙ this.2;
      drawn = ap drawn_by same ∙ this.1;
      answered = c.new.ensures.answered;
    } in
    record {
      count =
          (let longer = ap length pushed in
          let one = length-append worker_states (worker_state ∷ []) in
          let shorter = ap length next in
          let was = before.count in
          omega arith);
      left = All-rest IsUnused pass left rest next before.left;
      fresh = subst (All (IsFresh claims)) (sym pushed) (All-push (IsFresh claims) worker_states worker_state before.fresh fresh);
    }
