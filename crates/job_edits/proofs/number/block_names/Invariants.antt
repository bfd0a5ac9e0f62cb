use Rattle.std.proofs.Common.{◌≡◌, ◌++◌, length}
use Rattle.job_edits.specs.Numbers.{names_from, blocks_in}
use Rattle.job_edits.proofs.number.block_names.Given as goal

abbrev pub invariant-tokens : goal.invariant-tokens
invariant-tokens l = l.names.items ++ names_from l.begins l.rest ≡ blocks_in l.tokens

abbrev pub decreases-tokens : goal.decreases-tokens
decreases-tokens l = length l.rest
