use Rattle.std.proofs.Common.{◌≡◌, ◌≤◌, ◌+◌, ◌++◌, ◌∷◌, [], length, sym, ap, ◌∙◌, subst, map, arith, length-append}
use Rattle.std.proofs.lemmas.List.Elements.{All-push, All-same}
use Rattle.input_lines.specs.Part.{span_of, buffer_of, lines_left, IsLineOf}
use Rattle.input_lines.proofs.FindLemmas.{shown_more}
use Rattle.input_lines.proofs.head.first_lines.Goals as goal

pub loop-line-preserved : goal.loop-line-preserved
loop-line-preserved c =
    let b = buffer_of c.args.part in
    let line = c.in-Some.line in
    let before = c.loop-line.invariant in
    let steps = c.in-Some.ensures.steps in
    let placed : IsLineOf b line = subst (λ x. IsLineOf x line) before.source steps.placed in
    let pushed : c.push.new.self.items ≡ c.loop-line.lines.items ++ line ∷ [] = c.in_ok-push.ensures.items in
    let one : length (c.loop-line.lines.items ++ line ∷ []) ≡ length c.loop-line.lines.items + 1 =
    length-append c.loop-line.lines.items (line ∷ []) in
    let few : length c.push.new.self.items ≤ c.args.count = omega (arith, ap length pushed) in
    record {
      source = steps.same_source ∙ before.source;
      all = before.all ∙ ap (λ ls. map span_of c.loop-line.lines.items ++ ls) steps.first ∙ shown_more c.loop-line.lines.items line _
          ∙ ap (λ ls. map span_of ls ++ lines_left c.next.new.self) (sym pushed);
      texts = All-same (IsLineOf b) _ _ pushed (All-push (IsLineOf b) c.loop-line.lines.items line before.texts placed);
      few = few;
    }
