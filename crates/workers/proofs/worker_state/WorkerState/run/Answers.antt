use Rattle.std.proofs.Common.{rules, arith, ◌≡◌, ◌∙◌, ap, false}
use Rattle.workers.specs.Claims.{drawn_by, is_spent, IsPassOf}
use Rattle.std.proofs.Common.{sym, subst}
use Rattle.workers.proofs.WorkerStateLemmas.{top, top-at_most, top-push, drawn-one_more}
use Rattle.workers.proofs.worker_state.WorkerState.run.Goals as goal

pub draws-smaller : goal.draws-smaller
draws-smaller g c =
    let i = c.in-Some.number in
    let inside = c.in-Some.ensures.number.0 in
    let count = c.requires.count in
    let low = top-at_most (drawn_by c.draws.self.pass) i c.in-Some.ensures.number.1 in
    let high = top-push (drawn_by c.draws.self.pass) i in
    let drew = ap top c.in-Some.ensures.drawn in
    let kept = ap (λ p. top (drawn_by p)) c.note.ensures.pass in
    omega arith

pub draws-preserved : goal.draws-preserved
draws-preserved g c =
    let i = c.in-Some.number in
    let inside = c.in-Some.ensures.number.0 in
    let count = c.requires.count in
    let unspent : is_spent c.claim.new.pass ≡ false = search rules in
    record {
      pass = subst (IsPassOf c.args.claims.now) (sym c.note.ensures.pass) c.in-Some.ensures.same;
      unspent = ap is_spent c.note.ensures.pass ∙ unspent;
      answered =
          λ fits.
          let more = c.note.ensures.more fits in
          drawn-one_more c.args.requests.now (drawn_by c.draws.self.pass) _ _ _ i _ more.0
          (c.draws.invariant.answered (c.note.ensures.kept fits)) (omega arith) c.index-requests-number.is more.1
          (ap drawn_by c.note.ensures.pass ∙ c.in-Some.ensures.drawn) more.2;
    }
