use Rattle.std.proofs.Common.{◌≡◌, ◌++◌, length}
use Rattle.job_edits.specs.Repeated.{blocks_from, repeated_in}
use Rattle.job_edits.proofs.repeated.repeated_blocks.Given as goal

abbrev pub invariant-tokens : goal.invariant-tokens
invariant-tokens l = l.blocks.items ++ blocks_from l.begins l.rest ≡ repeated_in l.tokens

abbrev pub decreases-tokens : goal.decreases-tokens
decreases-tokens l = length l.rest
