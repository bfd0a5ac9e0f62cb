use Rattle.std.proofs.Common.{length}
use Rattle.input_lines.specs.Part.{lines_left}
use Rattle.input_lines.proofs.MatchLemmas.{Skipped}
use Rattle.input_lines.proofs.matching.next_by_line.Given as goal

abbrev pub invariant-lines : goal.invariant-lines
invariant-lines l = Skipped l.needle l.fn.left l.left

abbrev pub decreases-lines : goal.decreases-lines
decreases-lines l = length (lines_left l.left)
