-- What the code splits by, as the definitions see it.
use Rattle.std.specs.Prelude.{Bool, true, false, not}
use Rattle.exceptions.specs.declared.wanted.Match.{Match}
use Rattle.exceptions.specs.declared.wanted.Match.TheVariants.{Name, Cancelled}
use Rattle.exceptions.specs.Exceptions.{Exc}
use Rattle.exceptions.specs.Split.{Wanted, named, is_cancelled, matches}

abbrev pub wanted_of : Match → Wanted
wanted_of (Name name) = named name
wanted_of Cancelled = is_cancelled

-- the test of one side of a split: the leaves that match, or the others
abbrev pub side : Bool → Wanted → Exc → Bool
side true w leaf = matches w leaf
side false w leaf = not (matches w leaf)
