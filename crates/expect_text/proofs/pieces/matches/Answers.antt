use Rattle.std.proofs.Common.{◌∙◌, Some, None, sym}
use Rattle.std.proofs.lemmas.Bool.Decides.{Decides-eqb}
use Rattle.std.proofs.lemmas.Slice.Eq.{strip_prefix_is}
use Rattle.expect_text.proofs.PieceLemmas.{prefix_found, prefix_missing, whole_match}
use Rattle.expect_text.proofs.pieces.matches.Goals as goal

pub returns-in-None : goal.returns-in-None
returns-in-None c = c.eq.ensures ∙ sym (whole_match c.args.pattern.now c.args.text.now c.in-None.ensures.bytes)

pub returns-in-Some-strip_prefix : goal.returns-in-Some-strip_prefix
returns-in-Some-strip_prefix c =
    c.suffix_matches.ensures
    ∙ sym (prefix_found c.args.pattern.now c.in-Some.first.now c.in-Some.rest.now c.args.text.now c.in-Some-strip_prefix.left.now c.in-Some.ensures.bytes.0 c.in-Some.ensures.bytes.1
    (strip_prefix_is Decides-eqb c.args.text.now c.in-Some.first.now (Some c.in-Some-strip_prefix.left) c.in-Some-strip_prefix.ensures.cases))

pub returns-in-None-strip_prefix : goal.returns-in-None-strip_prefix
returns-in-None-strip_prefix c =
    sym (prefix_missing c.args.pattern.now c.in-Some.first.now c.in-Some.rest.now c.args.text.now c.in-Some.ensures.bytes.0 c.in-Some.ensures.bytes.1
    (strip_prefix_is Decides-eqb c.args.text.now c.in-Some.first.now None c.in-None-strip_prefix.ensures.cases))
