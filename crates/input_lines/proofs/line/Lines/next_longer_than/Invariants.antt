use Rattle.std.proofs.Common.{◌≡◌, ◌-◌}
use Rattle.input_lines.specs.Lines.{from_longer}
use Rattle.input_lines.specs.Part.{source_of, lines_left, range_left}
use Rattle.input_lines.proofs.line.Lines.next_longer_than.Given as goal

abbrev pub invariant-lines : goal.invariant-lines
invariant-lines l = record {
  source : source_of l.self ≡ source_of l.initial.self;
  same_end : (range_left l.self).to ≡ (range_left l.initial.self).to;
  passed : from_longer l.length (lines_left l.initial.self) ≡ from_longer l.length (lines_left l.self);
}

abbrev pub decreases-lines : goal.decreases-lines
decreases-lines l = l.self.end - l.self.next
