use Rattle.input_lines.specs.Part.{buffer_of, range_of}
use Rattle.input_lines.specs.Kernels.{found_in}
use Rattle.input_lines.proofs.MatchLemmas.{found_none_yet, found_more, found_all}
use Rattle.input_lines.proofs.find.find_by_line.Goals as goal

pub lines-init : goal.lines-init
lines-init c = found_none_yet (buffer_of c.args.part) c.args.needle.now (range_of c.args.part) c.new-lines.result.items c.lines-left.result
    c.new-lines.ensures.items c.lines-left.ensures.source c.lines-left.ensures.lines

pub lines-preserved : goal.lines-preserved
lines-preserved c =
    let b = buffer_of c.args.part in
    let needle = c.args.needle.now in
    found_more b needle (found_in b needle (range_of c.args.part)) c.lines.lines.items c.push.new.self.items c.in-Some.line c.lines.left
    c.next_by_line.new.left c.lines.invariant c.in-Some.ensures c.in_ok-push.ensures.items

pub returns : goal.returns
returns c =
    let b = buffer_of c.args.part in
    let needle = c.args.needle.now in
    found_all b needle (found_in b needle (range_of c.args.part)) c.lines.lines.items c.from_vec.result c.lines.left
    c.next_by_line.new.left c.lines.invariant c.in_default.ensures c.from_vec.ensures
