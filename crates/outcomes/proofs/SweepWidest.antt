-- The length of the longest range, as the code finds it.
use Rattle.std.proofs.Common.{◌≡◌, List, [], ◌∷◌, max, arith}
use Rattle.outcomes.specs.Groups.{Group}
use Rattle.outcomes.specs.Sweeps.{width_of}

-- it is at least that of `as it is`
pub at_least : (gs : List Group) → max 8 (width_of gs) ≡ width_of gs
at_least [] = omega arith
at_least (g ∷ gs) = omega (arith, at_least gs)
