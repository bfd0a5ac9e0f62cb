use Rattle.std.proofs.Common.{◌≡◌, ◌++◌, ◌+◌, ◌*◌, ◌≤◌, length}
use Rattle.exceptions.specs.Held.{exc_of, excs_of}
use Rattle.exceptions.specs.Weigh.{weight_of, weight_in}
use Rattle.outcomes.specs.Groups.{sans_more}
use Rattle.outcomes.proofs.exc.+exc.Given as goal

abbrev pub invariant-push_sans_more-parts : goal.invariant-push_sans_more-parts
invariant-push_sans_more-parts l =
    (l.out.items ++ sans_more (excs_of l.rest) ≡ l.fn.out.items ++ sans_more (excs_of l.parts))
    × (weight_of (excs_of l.rest) ≤ weight_of (excs_of l.parts))

abbrev pub decreases-push_sans_more-parts : goal.decreases-push_sans_more-parts
decreases-push_sans_more-parts l = length l.rest

abbrev pub decreases-push_sans : goal.decreases-push_sans
decreases-push_sans l = 3 * weight_in (exc_of l.exc.now)

abbrev pub decreases-push_sans_parts : goal.decreases-push_sans_parts
decreases-push_sans_parts l = 3 * weight_of (excs_of l.parts.now) + 2

abbrev pub decreases-push_sans_more : goal.decreases-push_sans_more
decreases-push_sans_more l = 3 * weight_of (excs_of l.parts.now) + 1
