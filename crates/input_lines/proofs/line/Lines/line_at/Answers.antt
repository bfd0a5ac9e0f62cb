use Rattle.std.proofs.Common.{arith}
use Rattle.input_lines.specs.Part.{source_of}
use Rattle.input_lines.proofs.SkipLemmas.{GivesLine-some, goes_to_line, lines_of-some}
use Rattle.input_lines.proofs.line.Lines.line_at.Goals as goal

pub unwrap-requires : goal.unwrap-requires
unwrap-requires c =
    let s = c.skip_to.new.self in
    let starts = c.skip_to.ensures.starts in
    let same_end = c.skip_to.ensures.same_end in
    GivesLine-some s c.next.new.self c.next.result (lines_of-some (source_of s) s.next s.end (omega arith) s.within) c.next.ensures.steps

pub returns : goal.returns
returns c =
    let gives = rw c.unwrap.ensures at c.next.ensures.steps in
    goes_to_line c.args.self.now c.skip_to.new.self c.next.new.self c.args.place c.unwrap.result c.requires c.skip_to.ensures gives
