-- The weight of an exception, which is greater than that of each of its parts.
use Rattle.std.specs.Prelude.{ℕ, ◌+◌}
use Rattle.exceptions.specs.Exceptions.{Exc, cancelled, raised, too_slow, group, Excs, no_parts, part}

abbrev mutual
  pub weight_of : Excs → ℕ
  weight_of no_parts = 1
  weight_of (part e es) = weight_in e + weight_of es

  pub weight_in : Exc → ℕ
  weight_in cancelled = 4
  weight_in (raised name task tick) = 4
  weight_in (too_slow scope tick) = 4
  weight_in (group whose parts) = 4 + weight_of parts
