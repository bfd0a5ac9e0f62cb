use Rattle.std.proofs.Common.{rules, ◌≡◌, ◌≤◌, arith}
use Rattle.std.proofs.lemmas.Bool.{ltb-false}
use Rattle.workers.proofs.StepLemmas.{claims_allowed}
use Rattle.workers.proofs.batch.Claims.claim.Goals as goal

pub fetch_add-found-requires : goal.fetch_add-found-requires
fetch_add-found-requires c =
    let claims = c.args.self.now in
    let nones = c.args.pass.now.seat.me.0.nones in
    let at_most_none : nones ≤ 0 = ltb-false 0 nones c.requires.unspent in
    let requests = claims.word.shared.key.requests in
    let known : requests ≡ claims.requests = claims.known in
    let few = claims.few.0 in
    (search rules, search rules, claims_allowed _ _ _ _ c.requires.same.one (omega arith) (omega arith) claims.few.1)
