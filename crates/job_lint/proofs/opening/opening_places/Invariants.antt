use Rattle.std.proofs.Common.{◌≡◌, ◌++◌, length}
use Rattle.job_lint.specs.Openings.{places_from, opening_places}
use Rattle.job_lint.proofs.opening.opening_places.Given as goal

abbrev pub invariant-tokens : goal.invariant-tokens
invariant-tokens l = l.places.items ++ places_from l.opens l.rest ≡ opening_places l.tokens

abbrev pub decreases-tokens : goal.decreases-tokens
decreases-tokens l = length l.rest
