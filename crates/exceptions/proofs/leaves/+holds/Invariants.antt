use Rattle.std.proofs.Common.{◌≡◌, ◌+◌, ◌*◌, ◌≤◌, length}
use Rattle.exceptions.specs.Held.{exc_of, excs_of}
use Rattle.exceptions.specs.Exceptions.{hold_cancelled}
use Rattle.exceptions.specs.Weigh.{weight_of, weight_in}
use Rattle.exceptions.proofs.leaves.+holds.Given as goal

abbrev pub invariant-some_holds_cancelled-parts : goal.invariant-some_holds_cancelled-parts
invariant-some_holds_cancelled-parts l =
    (hold_cancelled (excs_of l.rest) ≡ hold_cancelled (excs_of l.parts)) × (weight_of (excs_of l.rest) ≤ weight_of (excs_of l.parts))

abbrev pub decreases-some_holds_cancelled-parts : goal.decreases-some_holds_cancelled-parts
decreases-some_holds_cancelled-parts l = length l.rest

abbrev pub decreases-holds_cancelled : goal.decreases-holds_cancelled
decreases-holds_cancelled l = 2 * weight_in (exc_of l.exc.now)

abbrev pub decreases-some_holds_cancelled : goal.decreases-some_holds_cancelled
decreases-some_holds_cancelled l = 2 * weight_of (excs_of l.parts.now) + 1
