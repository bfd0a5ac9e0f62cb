use Rattle.std.proofs.Common.{◌≡◌, ◌+◌, ◌*◌, ◌≤◌, length}
use Rattle.exceptions.specs.Held.{exc_of, excs_of}
use Rattle.exceptions.specs.Weigh.{weight_of, weight_in}
use Rattle.outcomes.specs.Notes.{some_leaf}
use Rattle.outcomes.proofs.lost.+leaves.Given as goal

abbrev pub invariant-some_leaf-parts : goal.invariant-some_leaf-parts
invariant-some_leaf-parts l =
    (some_leaf l.name (excs_of l.rest) ≡ some_leaf l.name (excs_of l.parts)) × (weight_of (excs_of l.rest) ≤ weight_of (excs_of l.parts))

abbrev pub decreases-some_leaf-parts : goal.decreases-some_leaf-parts
decreases-some_leaf-parts l = length l.rest

abbrev pub decreases-has_leaf : goal.decreases-has_leaf
decreases-has_leaf l = 2 * weight_in (exc_of l.exc.now)

abbrev pub decreases-some_leaf : goal.decreases-some_leaf
decreases-some_leaf l = 2 * weight_of (excs_of l.parts.now) + 1
