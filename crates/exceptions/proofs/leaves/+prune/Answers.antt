use Rattle.std.proofs.Common.{arith, ap, ◌∙◌}
use Rattle.exceptions.specs.Matching.{wanted_of, side}
use Rattle.exceptions.proofs.PartsLemmas.{weight_in-at, pruned_some, pruned_none}
use Rattle.exceptions.proofs.leaves.+prune.Goals as goal
use Rattle.exceptions.proofs.leaves.+prune.Goals.{prune_parts-in-Some+in_ok-push-in-Some, prune_parts-in-None}

pub prune_parts-prune-requires : goal.prune_parts-prune-requires
prune_parts-prune-requires t c =
    let at = weight_in-at c.args.parts.now c.parts.part-index c.part-item.result (omega arith) in
    let w = rw (← c.part-item.is) at at in
    (omega (arith, w, c.decreases), tt)

pub prune_parts-parts-preserved : goal.prune_parts-parts-preserved
prune_parts-parts-preserved t c =
    elim c.match-branch-2.branch [
      | prune_parts-in-Some+in_ok-push-in-Some w ↦
          pruned_some (side c.args.keeps (wanted_of c.args.wanted.now)) c.args.parts.now c.parts.left.items c.match-branch-2.left.items
          c.parts.part-index c.part-item.result _ _ (omega arith)
          c.parts.invariant c.in_ok-exc.ensures w.in-Some.is c.part-item.is
          (ap (λ v. v.items) w.left-is ∙ w.in_ok-push-in-Some.ensures.items)
      | prune_parts-in-None w ↦
          pruned_none (side c.args.keeps (wanted_of c.args.wanted.now)) c.args.parts.now c.parts.left.items c.match-branch-2.left.items
          c.parts.part-index c.part-item.result _ (omega arith)
          c.parts.invariant c.in_ok-exc.ensures w.in-None.is c.part-item.is (ap (λ v. v.items) w.left-is)
    ]
