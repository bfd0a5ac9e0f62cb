use Rattle.std.proofs.Common.{◌≡◌, ◌∷◌, length}
use Rattle.input_lines.specs.Part.{buffer_of, range_of, source_of, lines_left, span_of, IsLineOf}
use Rattle.input_lines.specs.Kernels.{longest_in, longest_among}
use Rattle.input_lines.proofs.longest.longest_line.Given as goal

abbrev pub invariant-longer : goal.invariant-longer
invariant-longer l = record {
  source : source_of l.left ≡ buffer_of l.part;
  best : longest_in (buffer_of l.part) (range_of l.part) ≡ longest_among (span_of l.longest ∷ lines_left l.left);
  text : IsLineOf (buffer_of l.part) l.longest;
}

abbrev pub decreases-longer : goal.decreases-longer
decreases-longer l = length (lines_left l.left)
