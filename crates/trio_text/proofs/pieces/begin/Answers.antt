use Rattle.std.proofs.Common.{append_assoc, add-one, sym, codes}
use Rattle.std.proofs.lemmas.List.{append-nil}
use Rattle.trio_text.specs.Lines.{margin}
use Rattle.trio_text.proofs.pieces.begin.Goals as goal

pub levels-init : goal.levels-init
unfolding margin
levels-init c = sym (append-nil c.args.out.now.items)

pub levels-preserved : goal.levels-preserved
unfolding margin
levels-preserved c =
    rw (c.in_ok-extend_from_slice.ensures.items, c.levels.invariant, add-one)
    (append_assoc c.args.out.now.items (margin c.levels.n) (codes "    "))
