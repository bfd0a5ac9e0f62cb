use Rattle.std.proofs.Common.{◌≡◌, length}
use Rattle.page.specs.Links.{line_in}
use Rattle.page.proofs.places.line_in.Given as goal

abbrev pub invariant-bytes : goal.invariant-bytes
invariant-bytes l = line_in l.places l.rest ≡ line_in l.places l.sentence

abbrev pub decreases-bytes : goal.decreases-bytes
decreases-bytes l = length l.rest
