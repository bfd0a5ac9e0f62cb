use Rattle.std.proofs.Common.{◌≡◌, length}
use Rattle.job_layout.specs.Spaced.{column_after}
use Rattle.std.specs.Io.Iter.{u64_saturate}
use Rattle.job_layout.proofs.layout.column_after.Given as goal

abbrev pub invariant-tokens : goal.invariant-tokens
invariant-tokens l = (u64_saturate (column_after l.end l.rest) ≡ u64_saturate (column_after l.fn.column l.fn.tokens)) × (u64_saturate l.end ≡ l.end)

abbrev pub decreases-tokens : goal.decreases-tokens
decreases-tokens l = length l.rest
