use Rattle.std.proofs.Common.{◌≡◌, ◌++◌, ◌+◌, ◌*◌, take}
use Rattle.exceptions.specs.Held.{exc_of, excs_of}
use Rattle.exceptions.specs.Weigh.{weight_of, weight_in}
use Rattle.exceptions.specs.Texts.{more_text}
use Rattle.exceptions.proofs.exc_text.+exc.Given as goal

abbrev pub invariant-push_more-parts : goal.invariant-push_more-parts
invariant-push_more-parts l = l.out.items ≡ l.fn.out.items ++ more_text (excs_of (take l.part-index l.parts))

abbrev pub decreases-push_exc : goal.decreases-push_exc
decreases-push_exc l = 3 * weight_in (exc_of l.exc.now)

abbrev pub decreases-push_parts : goal.decreases-push_parts
decreases-push_parts l = 3 * weight_of (excs_of l.parts.now) + 2

abbrev pub decreases-push_more : goal.decreases-push_more
decreases-push_more l = 3 * weight_of (excs_of l.parts.now) + 1
