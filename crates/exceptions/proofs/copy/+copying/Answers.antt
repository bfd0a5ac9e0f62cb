use Rattle.std.proofs.Common.{arith}
use Rattle.exceptions.proofs.PartsLemmas.{weight_in-at, copied_more}
use Rattle.exceptions.proofs.copy.+copying.Goals as goal

pub copies_of-copy_of-requires : goal.copies_of-copy_of-requires
copies_of-copy_of-requires t c =
    let at = weight_in-at c.args.parts.now c.parts.part-index c.part-item.result (omega arith) in
    let w = rw (← c.part-item.is) at at in
    (omega (arith, w, c.decreases), tt)

pub copies_of-parts-preserved : goal.copies_of-parts-preserved
copies_of-parts-preserved t c =
    copied_more c.args.parts.now c.parts.copies.items _ c.parts.part-index c.part-item.result c.in_ok-copy.copy (omega arith)
    c.parts.invariant c.in_ok-copy.ensures c.part-item.is c.in_ok-push.ensures.items
