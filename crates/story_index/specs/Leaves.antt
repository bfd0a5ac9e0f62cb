-- Exceptions of which every leaf is `Cancelled`.
use Rattle.std.specs.Prelude.{Bool, true, false, ◌&&◌}
use Rattle.exceptions.specs.Exceptions.{Exc, cancelled, raised, too_slow, group, Excs, no_parts, part}

abbrev mutual
  pub all_cancelled : Exc → Bool
  all_cancelled cancelled = true
  all_cancelled (raised name task tick) = false
  all_cancelled (too_slow scope tick) = false
  all_cancelled (group whose parts) = all_in parts

  pub all_in : Excs → Bool
  all_in no_parts = true
  all_in (part e es) = all_cancelled e && all_in es
