use Rattle.std.proofs.Common.{◌≡◌, ◌+◌, ◌*◌, ◌≤◌, length}
use Rattle.exceptions.specs.Held.{exc_of, excs_of}
use Rattle.exceptions.specs.Weigh.{weight_of, weight_in}
use Rattle.story_index.specs.Leaves.{all_in}
use Rattle.story_index.proofs.exc.+leaves.Given as goal

abbrev pub invariant-have_no_other-parts : goal.invariant-have_no_other-parts
invariant-have_no_other-parts l =
    (all_in (excs_of l.rest) ≡ all_in (excs_of l.parts)) × (weight_of (excs_of l.rest) ≤ weight_of (excs_of l.parts))

abbrev pub decreases-have_no_other-parts : goal.decreases-have_no_other-parts
decreases-have_no_other-parts l = length l.rest

abbrev pub decreases-has_no_other : goal.decreases-has_no_other
decreases-has_no_other l = 2 * weight_in (exc_of l.exc.now)

abbrev pub decreases-have_no_other : goal.decreases-have_no_other
decreases-have_no_other l = 2 * weight_of (excs_of l.parts.now) + 1
