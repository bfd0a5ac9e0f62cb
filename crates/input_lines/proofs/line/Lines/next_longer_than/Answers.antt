use Rattle.std.proofs.Common.{◌∙◌, arith}
use Rattle.input_lines.proofs.LongerLemmas.{passed-newline, passed-rest, longer-given}
use Rattle.input_lines.proofs.LineLemmas.{lines_of-none}
use Rattle.input_lines.proofs.line.Lines.next_longer_than.Goals as goal

pub lines-preserved : goal.lines-preserved
lines-preserved c =
    let s = c.lines.self in
    let passed = passed-newline s.buffer.now s.next s.end c.args.length c.in-Some.place c.lines-test.true s.within c.in-Some.ensures in
    record { source = c.lines.invariant.source; same_end = c.lines.invariant.same_end; passed = c.lines.invariant.passed ∙ passed.1 }

pub returns-in-None : goal.returns-in-None
returns-in-None c =
    longer-given c.args.self.now c.lines.self c.next.new.self c.args.length c.next.result c.lines.invariant.source
    c.lines.invariant.same_end c.lines.invariant.passed c.lines-test.true c.in-None.ensures c.next.ensures.steps

pub returns : goal.returns
returns c =
    let s = c.lines.self in
    record {
      first = (
        c.lines.invariant.passed ∙ passed-rest s.buffer.now s.next s.end c.args.length (omega arith) s.within,
        lines_of-none s.buffer.now s.end,
      );
      placed = tt;
      same_source = c.lines.invariant.source;
      same_end = c.lines.invariant.same_end;
    }
