use Rattle.std.proofs.Common.{◌≡◌, ◌++◌, length}
use Rattle.commands.specs.Names.{given_in}
use Rattle.commands.proofs.names.names_in.Given as goal

abbrev pub invariant-tokens : goal.invariant-tokens
invariant-tokens l = l.names.items ++ given_in l.rest ≡ given_in l.tokens

abbrev pub decreases-tokens : goal.decreases-tokens
decreases-tokens l = length l.rest
