use Rattle.std.proofs.Common.{◌≡◌, ◌<◌, ◌-◌, suc, length, refl, sym, arith}
use Rattle.std.specs.Vec.{vec_len}
use Rattle.outcomes.proofs.Backwards.{joins_last}
use Rattle.outcomes.proofs.groups.put.Goals as goal

pub returns-then-shares : goal.returns-then-shares
returns-then-shares c =
    let groups = c.args.groups.now in
    let some : 0 < vec_len groups = c.last_mut.ensures.variant.0 (rw c.in-Some.is refl) in
    let last : suc (vec_len groups - 1) ≡ length groups.items = omega (arith, some) in
    joins_last groups.items (vec_len groups - 1) c.args.group c.in-Some.last.now c.join.new.self last c.in-Some.ensures.value
    (sym c.if-shares.ensures) c.join.ensures
