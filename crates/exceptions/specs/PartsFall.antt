-- A group is larger than each of its parts.
use Rattle.std.specs.Prelude.{◌+◌, ◌≤◌, max, List, [], ◌∷◌}
use Rattle.std.proofs.Common.{arith}
use denote.Param.Weighed.{most}
use Rattle.exceptions.specs.declared.exc.Exc.{Exc}
use Rattle.exceptions.specs.declared.exc.Exc.TheVariants.{Cancelled, Raised, TooSlow, Group}
use Rattle.exceptions.specs.declared.exc.Parts.TheDeep.{deep-Exc}
use Rattle.exceptions.specs.Weigh.{weight_of, weight_in}
use Rattle.exceptions.specs.Held.{exc_of, excs_of}

pub deep_le_weight : (e : Exc) → deep-Exc e + 1 ≤ weight_in (exc_of e)
deep_le_weight Cancelled = omega arith
deep_le_weight (Raised name task tick) = omega arith
deep_le_weight (TooSlow scope tick) = omega arith
deep_le_weight (Group whose parts) = omega arith

most_le_weight : (es : List Exc) → most deep-Exc es ≤ weight_of (excs_of es)
most_le_weight [] = omega arith
most_le_weight (e ∷ es) = omega (arith, most_le_weight es, deep_le_weight e)

pub parts_fall : (es : List Exc) → max (most deep-Exc es) 0 ≤ weight_of (excs_of es)
parts_fall es = omega (arith, most_le_weight es)
