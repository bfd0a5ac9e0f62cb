use Rattle.std.proofs.Common.{arith, append_assoc}
use Rattle.exceptions.proofs.PartsLemmas.{weight_in-at}
use Rattle.exceptions.proofs.PartTexts.{more_text-take}
use Rattle.exceptions.proofs.exc_text.+exc.Goals as goal

pub push_more-push_exc-requires : goal.push_more-push_exc-requires
push_more-push_exc-requires t c =
    let at = weight_in-at c.args.parts.now c.parts.part-index c.part-item.result (omega arith) in
    let w = rw (← c.part-item.is) at at in
    (omega (arith, w, c.decreases), tt)

pub push_more-parts-preserved : goal.push_more-parts-preserved
push_more-parts-preserved t c =
    let at = more_text-take c.args.parts.now c.parts.part-index c.part-item.result (omega arith) in
    let text = rw (← c.part-item.is) at at in
    rw text (grind (arith, append_assoc))
