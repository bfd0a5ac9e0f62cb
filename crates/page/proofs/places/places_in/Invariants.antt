use Rattle.std.proofs.Common.{◌≡◌, ◌++◌, length}
use Rattle.page.specs.Links.{places_in}
use Rattle.page.proofs.places.places_in.Given as goal

abbrev pub invariant-tokens : goal.invariant-tokens
invariant-tokens l = l.places.items ++ places_in l.text l.rest ≡ places_in l.text l.tokens

abbrev pub decreases-tokens : goal.decreases-tokens
decreases-tokens l = length l.rest
