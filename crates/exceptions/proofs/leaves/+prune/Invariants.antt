use Rattle.std.proofs.Common.{◌≡◌, ◌+◌, ◌*◌, take}
use Rattle.exceptions.specs.Held.{exc_of, excs_of}
use Rattle.exceptions.specs.Split.{pruned_parts}
use Rattle.exceptions.specs.Matching.{wanted_of, side}
use Rattle.exceptions.specs.Weigh.{weight_of, weight_in}
use Rattle.exceptions.proofs.leaves.+prune.Given as goal

abbrev pub invariant-prune_parts-parts : goal.invariant-prune_parts-parts
invariant-prune_parts-parts l =
    excs_of l.left.items ≡ pruned_parts (side l.keeps (wanted_of l.wanted)) (excs_of (take l.part-index l.parts))

abbrev pub decreases-prune : goal.decreases-prune
decreases-prune l = 2 * weight_in (exc_of l.exc.now)

abbrev pub decreases-prune_parts : goal.decreases-prune_parts
decreases-prune_parts l = 2 * weight_of (excs_of l.parts.now) + 1
