use Rattle.std.proofs.Common.{length}
use Rattle.input_lines.specs.Part.{buffer_of, range_of, lines_left}
use Rattle.input_lines.specs.Kernels.{found_in}
use Rattle.input_lines.proofs.MatchLemmas.{FoundSoFar}
use Rattle.input_lines.proofs.find.find_by_line.Given as goal

abbrev pub invariant-lines : goal.invariant-lines
invariant-lines l =
    FoundSoFar (buffer_of l.part) l.needle (found_in (buffer_of l.part) l.needle (range_of l.part)) l.lines.items l.left

abbrev pub decreases-lines : goal.decreases-lines
decreases-lines l = length (lines_left l.left)
