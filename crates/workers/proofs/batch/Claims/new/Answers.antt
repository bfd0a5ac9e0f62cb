use Rattle.std.proofs.Common.{rules, ap, arith}
use Rattle.workers.proofs.StepLemmas.{cuts_allowed}
use Rattle.workers.proofs.batch.Claims.new.Goals as goal

pub split_seat-cut-requires : goal.split_seat-cut-requires
split_seat-cut-requires c =
    let me = c.cuts.invariant.1 in
    let parts = ap (λ m. m.0.parts) me in
    let nones = ap (λ m. m.0.nones) me in
    let more = c.cuts-test.true in
    (search rules, search rules, cuts_allowed _ _ _ (omega arith) nones)
