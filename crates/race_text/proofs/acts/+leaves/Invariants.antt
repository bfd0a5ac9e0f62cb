use Rattle.std.proofs.Common.{◌≡◌, ◌+◌, ◌*◌, ◌≤◌, length}
use Rattle.exceptions.specs.Held.{exc_of, excs_of}
use Rattle.exceptions.specs.Weigh.{weight_of, weight_in}
use Rattle.race_text.specs.Copies.{some_failure}
use Rattle.race_text.proofs.acts.+leaves.Given as goal

abbrev pub invariant-some_failure-parts : goal.invariant-some_failure-parts
invariant-some_failure-parts l =
    (some_failure (excs_of l.rest) ≡ some_failure (excs_of l.parts)) × (weight_of (excs_of l.rest) ≤ weight_of (excs_of l.parts))

abbrev pub decreases-some_failure-parts : goal.decreases-some_failure-parts
decreases-some_failure-parts l = length l.rest

abbrev pub decreases-is_failure : goal.decreases-is_failure
decreases-is_failure l = 2 * weight_in (exc_of l.exc.now)

abbrev pub decreases-some_failure : goal.decreases-some_failure
decreases-some_failure l = 2 * weight_of (excs_of l.parts.now) + 1
