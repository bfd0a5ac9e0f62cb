use Rattle.std.proofs.Common.{[], ◌∷◌, ◌++◌, ◌∙◌, ap, sym, arith}
use Rattle.json_story.proofs.LiteralLemmas.{pushed_short, pushed_long, escape_plain}
use Rattle.json_story.proofs.literal.push_literal.Goals as goal

pub returns-then-letter-gt0 : goal.returns-then-letter-gt0
returns-then-letter-gt0 c =
    pushed_short c.args.b c.escape_letter-letter.result _ _ _ c.escape_letter-letter.ensures c.if-letter-gt0.true
    c.in_ok-push.ensures.items c.in_ok-push-2.ensures.items

pub returns-then-b-ge32 : goal.returns-then-b-ge32
returns-then-b-ge32 c =
    c.in_ok-push-3.ensures.items ∙ ap (λ text. c.args.out.now.items ++ text)
    (sym (escape_plain c.args.b (omega (arith, c.escape_letter-letter.ensures, c.if-letter-gt0.false)) c.if-b-ge32.true))

pub returns : goal.returns
returns c =
    pushed_long c.args.b c.escape_letter-letter.result c.args.out.now.items _ _ _ c.escape_letter-letter.ensures
    (omega (arith, c.if-letter-gt0.false)) (omega (arith, c.if-b-ge32.false)) c.in_ok-extend_from_slice.ensures.items
    (c.in_ok-push-4.ensures.items ∙ ap (λ digit. c.extend_from_slice.new.self.items ++ digit ∷ []) c.hex_digit.ensures.value)
    (c.in_ok-push-5.ensures.items ∙ ap (λ digit. c.push-2.new.self.items ++ digit ∷ []) c.hex_digit-2.ensures.value)
