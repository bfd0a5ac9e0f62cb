use Rattle.std.proofs.Common.{[], ◌∷◌, ◌++◌, ◌∙◌, ap, sym, arith}
use Rattle.json_story.proofs.QuotedLemmas.{escape_plain, escape_quote, escape_slash, pushed_other}
use Rattle.json_story.proofs.quoted.push_byte.Goals as goal

pub returns-then-b-eq34 : goal.returns-then-b-eq34
returns-then-b-eq34 c = rw (c.if-b-eq34.true, escape_quote) c.in_ok-extend_from_slice.ensures.items

pub returns-then-b-eq92 : goal.returns-then-b-eq92
returns-then-b-eq92 c = rw (c.if-b-eq92.true, escape_slash) c.in_ok-extend_from_slice-2.ensures.items

pub returns-then-is_plain_byte : goal.returns-then-is_plain_byte
returns-then-is_plain_byte c =
    c.in_ok-push.ensures.items ∙ ap (λ text. c.args.out.now.items ++ text)
    (sym (escape_plain c.args.b (sym c.is_plain_byte.ensures.value ∙ c.if-is_plain_byte.true) c.if-b-eq34.false))

pub returns : goal.returns
returns c =
    pushed_other c.args.b (omega (arith, c.ranges.b.fits)) (sym c.is_plain_byte.ensures.value ∙ c.if-is_plain_byte.false) c.if-b-eq92.false c.args.out.now.items
    _ _ _ c.in_ok-extend_from_slice-3.ensures.items (c.in_ok-push-2.ensures.items ∙ ap (λ digit. c.extend_from_slice-2.new.self.items ++ digit ∷ []) c.hex_digit.ensures.value)
    (c.in_ok-push-3.ensures.items ∙ ap (λ digit. c.push-2.new.self.items ++ digit ∷ []) c.hex_digit-2.ensures.value)
