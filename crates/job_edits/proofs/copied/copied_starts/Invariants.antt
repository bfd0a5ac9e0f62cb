use Rattle.std.proofs.Common.{◌≡◌, ◌++◌, length, reverse}
use Rattle.job_edits.specs.Copied.{copied_from, copied_in}
use Rattle.job_edits.proofs.copied.copied_starts.Given as goal

abbrev pub invariant-tokens : goal.invariant-tokens
invariant-tokens l = l.starts.items ++ copied_from (reverse l.blocks.items) l.repeats l.rest ≡ copied_in l.tokens

abbrev pub decreases-tokens : goal.decreases-tokens
decreases-tokens l = length l.rest
