use Rattle.std.proofs.Common.{◌+◌, ◌<◌, length, sym, ap, ◌∙◌, arith}
use Rattle.std.proofs.lemmas.Bool.{eqb-false}
use Rattle.input_lines.specs.Lines.{lines_from}
use Rattle.input_lines.proofs.CountLemmas.{count-ended, count-open}
use Rattle.input_lines.proofs.count.line_count.Goals as goal

pub returns-then-text-eq10 : goal.returns-then-text-eq10
returns-then-text-eq10 c =
    let from = c.args.part.start in
    c.newline_count-newlines.ensures ∙ count-ended from c.text-text.result.now c.if-text-eq10.true
    ∙ ap (λ xs. length (lines_from from xs)) c.text-text.ensures

pub returns : goal.returns
returns c =
    let from = c.args.part.start in
    let some : 0 < length c.text-text.result.now = omega (arith, eqb-false _ _ (sym c.is_empty.ensures ∙ c.if-is_empty.false)) in
    ap (λ n. n + 1) c.newline_count-newlines.ensures ∙ count-open from c.text-text.result.now some c.if-text-eq10.false
    ∙ ap (λ xs. length (lines_from from xs)) c.text-text.ensures
