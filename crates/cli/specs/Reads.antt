-- How words are read: to exactly what they spell.
use Rattle.std.specs.Prelude.{◌≡◌, ◌≢◌, Option, Some, None, Ok, Err, Result}
use Rattle.cli.specs.declared.command.CommandFault.{CommandFault}
use Rattle.cli.specs.declared.command.CommandFault.TheVariants.{NoMemory}

-- The result is what the words spell, by a view. It is a refusal only if they spell nothing; memory may be refused.
abbrev pub Reads : {T V : Type 0} → (T → V) → Option V → Result T CommandFault → Type 0
Reads view spelled (Ok read) = spelled ≡ Some (view read)
Reads view spelled (Err fault) = fault ≢ NoMemory → spelled ≡ None
