use Rattle.std.proofs.Common.{ℕ, List, subst}
use Rattle.input_lines.specs.Part.{buffer_of, range_of}
use Rattle.input_lines.specs.Matches.{GivesMatch}
use Rattle.input_lines.proofs.MatchLemmas.{needed_match}
use Rattle.input_lines.proofs.need.find_needed_line.Goals as goal

pub returns-then-fits_in_line-clause-place : goal.returns-then-fits_in_line-clause-place
returns-then-fits_in_line-clause-place c =
    let needle = c.args.needle.now in
    let left = c.lines-left.result in
    let after = c.next_by_search.new.left in
    let gives : GivesMatch needle left c.next_by_search.result after =
    subst (λ (n : List ℕ). GivesMatch n left c.next_by_search.result after) c.new-finder.ensures c.next_by_search.ensures in
    needed_match (buffer_of c.args.part) needle (range_of c.args.part) left after c.next_by_search.result c.lines-left.ensures.source
    c.lines-left.ensures.lines gives

pub returns-clause-place : goal.returns-clause-place
returns-clause-place c =
    needed_match (buffer_of c.args.part) c.args.needle.now (range_of c.args.part) c.lines-left.result c.next_by_line.new.left
    c.next_by_line.result c.lines-left.ensures.source c.lines-left.ensures.lines c.next_by_line.ensures
