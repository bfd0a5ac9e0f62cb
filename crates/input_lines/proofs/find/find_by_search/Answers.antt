use Rattle.std.proofs.Common.{ℕ, List, Some, None, subst}
use Rattle.input_lines.specs.Part.{buffer_of, range_of}
use Rattle.input_lines.specs.Kernels.{found_in}
use Rattle.input_lines.specs.Matches.{GivesMatch}
use Rattle.input_lines.proofs.MatchLemmas.{found_none_yet, found_more, found_all}
use Rattle.input_lines.proofs.find.find_by_search.Goals as goal

pub lines-init : goal.lines-init
lines-init c = found_none_yet (buffer_of c.args.part) c.args.needle.now (range_of c.args.part) c.new-lines.result.items c.lines-left.result
    c.new-lines.ensures.items c.lines-left.ensures.source c.lines-left.ensures.lines

pub lines-preserved : goal.lines-preserved
lines-preserved c =
    let b = buffer_of c.args.part in
    let needle = c.args.needle.now in
    let after = c.next_by_search.new.left in
    let gives : GivesMatch needle c.lines.left (Some c.in-Some.line) after =
    subst (λ (n : List ℕ). GivesMatch n c.lines.left (Some c.in-Some.line) after) c.new-finder.ensures c.in-Some.ensures in
    found_more b needle (found_in b needle (range_of c.args.part)) c.lines.lines.items c.push.new.self.items c.in-Some.line c.lines.left
    after c.lines.invariant gives c.in_ok-push.ensures.items

pub returns : goal.returns
returns c =
    let b = buffer_of c.args.part in
    let needle = c.args.needle.now in
    let after = c.next_by_search.new.left in
    let gives : GivesMatch needle c.lines.left None after =
    subst (λ (n : List ℕ). GivesMatch n c.lines.left None after) c.new-finder.ensures c.in_default.ensures in
    found_all b needle (found_in b needle (range_of c.args.part)) c.lines.lines.items c.from_vec.result c.lines.left after
    c.lines.invariant gives c.from_vec.ensures
