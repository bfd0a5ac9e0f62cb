use Rattle.std.proofs.Common.{◌≡◌, length}
use Rattle.expect_text.specs.Expectations.{is_without_demands}
use Rattle.expect_text.proofs.expectations.is_without_demands.Given as goal

abbrev pub invariant-lines : goal.invariant-lines
invariant-lines l = is_without_demands l.left ≡ is_without_demands l.file

abbrev pub decreases-lines : goal.decreases-lines
decreases-lines l = length l.left
