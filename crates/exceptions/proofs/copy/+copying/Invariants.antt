use Rattle.std.proofs.Common.{◌≡◌, ◌+◌, ◌*◌, take}
use Rattle.exceptions.specs.Held.{exc_of, excs_of}
use Rattle.exceptions.specs.Weigh.{weight_of, weight_in}
use Rattle.exceptions.proofs.copy.+copying.Given as goal

abbrev pub invariant-copies_of-parts : goal.invariant-copies_of-parts
invariant-copies_of-parts l = excs_of l.copies.items ≡ excs_of (take l.part-index l.parts)

abbrev pub decreases-copy_of : goal.decreases-copy_of
decreases-copy_of l = 2 * weight_in (exc_of l.exc.now)

abbrev pub decreases-copies_of : goal.decreases-copies_of
decreases-copies_of l = 2 * weight_of (excs_of l.parts.now) + 1
