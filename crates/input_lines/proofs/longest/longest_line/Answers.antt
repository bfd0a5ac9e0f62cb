use Rattle.std.proofs.Common.{length, sym, ap, ◌∙◌, subst}
use Rattle.input_lines.specs.Lines.{from_longer}
use Rattle.input_lines.specs.Part.{span_of, lines_left, IsLineOf}
use Rattle.input_lines.proofs.LongestLemmas.{longest-longer, longest-last, longer-fewer}
use Rattle.input_lines.proofs.longest.longest_line.Goals as goal

pub longer-smaller : goal.longer-smaller
longer-smaller c =
    let before = span_of c.longer.longest in
    let steps = c.in-Some.ensures in
    longer-fewer before.len (lines_left c.longer.left) (span_of c.in-Some.line) (lines_left c.next_longer_than.new.self)
    (ap (λ n. from_longer n (lines_left c.longer.left)) (sym (ap length c.text.ensures)) ∙ steps.first)

pub longer-preserved : goal.longer-preserved
longer-preserved c =
    let before = span_of c.longer.longest in
    let steps = c.in-Some.ensures in
    let first = ap (λ n. from_longer n (lines_left c.longer.left)) (sym (ap length c.text.ensures)) ∙ steps.first in
    record {
      source = steps.same_source ∙ c.longer.invariant.source;
      best = c.longer.invariant.best ∙ longest-longer before (lines_left c.longer.left) (span_of c.in-Some.line)
          (lines_left c.next_longer_than.new.self) first;
      text = subst (λ b. IsLineOf b c.in-Some.line) c.longer.invariant.source steps.placed;
    }

pub returns-clause-place : goal.returns-clause-place
returns-clause-place c =
    let before = span_of c.longer.longest in
    let none = ap (λ n. from_longer n (lines_left c.longer.left)) (sym (ap length c.text.ensures)) ∙ c.in_default.ensures.first.0 in
    c.longer.invariant.best ∙ longest-last before (lines_left c.longer.left) none
