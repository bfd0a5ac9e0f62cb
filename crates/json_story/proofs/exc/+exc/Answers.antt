use Rattle.std.proofs.Common.{arith}
use Rattle.exceptions.proofs.PartsLemmas.{weight_in-at}
use Rattle.json_story.proofs.Parts.{parts_pushed}
use Rattle.json_story.proofs.exc.+exc.Goals as goal

pub part_values-exc_value-requires : goal.part_values-exc_value-requires
part_values-exc_value-requires t c =
    let at = weight_in-at c.args.parts.now c.parts.part-index c.part-item.result (omega arith) in
    let w = rw (← c.part-item.is) at at in
    (omega (arith, w, c.decreases), tt)

pub part_values-parts-preserved : goal.part_values-parts-preserved
part_values-parts-preserved t c =
    parts_pushed c.args.parts.now c.parts.part-index c.part-item.result _ _ _ (omega arith) c.part-item.is c.in_ok-push.ensures.items
    c.parts.invariant c.in_ok-value.ensures
