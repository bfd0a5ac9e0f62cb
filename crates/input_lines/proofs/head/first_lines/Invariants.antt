use Rattle.std.proofs.Common.{◌≡◌, ◌≤◌, ◌++◌, length, map, All}
use Rattle.input_lines.specs.Lines.{lines_of}
use Rattle.input_lines.specs.Part.{span_of, buffer_of, range_of, source_of, lines_left, IsLineOf}
use Rattle.input_lines.proofs.head.first_lines.Given as goal

abbrev pub invariant-loop-line : goal.invariant-loop-line
invariant-loop-line l = record {
  source : source_of l.line-iterator ≡ buffer_of l.part;
  all : lines_of (buffer_of l.part) (range_of l.part) ≡ map span_of l.lines.items ++ lines_left l.line-iterator;
  texts : All (IsLineOf (buffer_of l.part)) l.lines.items;
  few : length l.lines.items ≤ l.count;
}
