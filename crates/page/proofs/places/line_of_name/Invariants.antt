use Rattle.std.proofs.Common.{◌≡◌, length}
use Rattle.page.specs.Links.{line_of_name}
use Rattle.page.proofs.places.line_of_name.Given as goal

abbrev pub invariant-places : goal.invariant-places
invariant-places l = line_of_name l.rest l.name ≡ line_of_name l.places l.name

abbrev pub decreases-places : goal.decreases-places
decreases-places l = length l.rest
