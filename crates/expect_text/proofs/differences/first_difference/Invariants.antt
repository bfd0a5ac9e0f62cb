use Rattle.std.proofs.Common.{◌≡◌, ◌+◌, ◌≤◌, length}
use Rattle.expect_text.specs.Lines.{lines_of}
use Rattle.expect_text.specs.Differences.{difference_from, first_difference}
use Rattle.expect_text.proofs.differences.first_difference.Given as goal

abbrev pub invariant-lines : goal.invariant-lines
invariant-lines l = (difference_from l.line (lines_of l.kept_left) (lines_of l.written_left) ≡ first_difference l.kept l.written)
    × (l.line + length l.kept_left ≤ 1 + length l.kept)

abbrev pub decreases-lines : goal.decreases-lines
decreases-lines l = length l.kept_left
