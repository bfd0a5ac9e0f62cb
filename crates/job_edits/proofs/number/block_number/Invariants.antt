use Rattle.std.proofs.Common.{◌≡◌, length}
use Rattle.job_edits.specs.Numbers.{number_named, block_number}
use Rattle.job_edits.proofs.number.block_number.Given as goal

abbrev pub invariant-tokens : goal.invariant-tokens
invariant-tokens l = number_named l.begins l.name l.rest ≡ block_number l.name l.tokens

abbrev pub decreases-tokens : goal.decreases-tokens
decreases-tokens l = length l.rest
