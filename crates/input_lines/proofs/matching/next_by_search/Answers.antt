use Rattle.std.proofs.Common.{ℕ, List, Some, None, subst}
use Rattle.memchr.specs.Find.{FindsNeedle}
use Rattle.input_lines.proofs.MatchLemmas.{search_match, search_none}
use Rattle.input_lines.proofs.matching.next_by_search.Goals as goal

pub returns-in-Some : goal.returns-in-Some
returns-in-Some c =
    let needle = c.args.finder.now in
    search_match needle c.args.left.now c.line_at.new.self c.in-Some.place c.line_at.result c.requires.some c.requires.in_one_line
    (subst (λ (text : List ℕ). FindsNeedle text needle 0 (Some c.in-Some.place)) c.text.ensures c.in-Some.ensures) c.line_at.ensures

pub returns-in-None : goal.returns-in-None
returns-in-None c =
    let needle = c.args.finder.now in
    search_none needle c.args.left.now c.requires.some
    (subst (λ (text : List ℕ). FindsNeedle text needle 0 None) c.text.ensures c.in-None.ensures)
