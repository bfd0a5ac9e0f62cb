use Rattle.std.proofs.Common.{◌≡◌, length}
use Rattle.job_reader.specs.Uses.{targets_in}
use Rattle.job_reader.proofs.uses.next_target.Given as goal

abbrev pub invariant-tokens : goal.invariant-tokens
invariant-tokens l = targets_in l.tokens l.roles ≡ targets_in l.left.tokens.now l.left.roles.now

abbrev pub decreases-tokens : goal.decreases-tokens
decreases-tokens l = length l.tokens
