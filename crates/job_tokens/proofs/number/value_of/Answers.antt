use Rattle.std.proofs.Common.{◌+◌, ◌*◌, drop, sym, ◌∙◌, arith}
use Rattle.std.proofs.lemmas.List.{drop_all}
use Rattle.job_tokens.proofs.Numbers.{value_step, is_above, is_whole}
use Rattle.job_tokens.proofs.number.value_of.Goals as goal

pub returns-then-value-gt-MAX_NUMBER : goal.returns-then-value-gt-MAX_NUMBER
returns-then-value-gt-MAX_NUMBER c =
    let step = value_step c.loop-digit.value c.args.digits.now c.loop-digit.digit-index c.from.result c.loop-digit-test.true
    (c.from.ensures ∙ c.saturating_sub.ensures) in
    sym (is_above (10 * c.loop-digit.value + c.from.result) c.args.digits.now (drop (c.loop-digit.digit-index + 1) c.args.digits.now)
    (sym step ∙ c.loop-digit.invariant.so_far) (omega arith))

pub loop-digit-preserved : goal.loop-digit-preserved
loop-digit-preserved c =
    let step = value_step c.loop-digit.value c.args.digits.now c.loop-digit.digit-index c.from.result c.loop-digit-test.true
    (c.from.ensures ∙ c.saturating_sub.ensures) in
    record { within = omega arith; so_far = sym step ∙ c.loop-digit.invariant.so_far }

pub returns : goal.returns
returns c = sym (is_whole c.loop-digit.value c.args.digits.now (drop c.loop-digit.digit-index c.args.digits.now)
    (drop_all c.loop-digit.digit-index c.args.digits.now c.loop-digit-test.false) c.loop-digit.invariant.so_far
    c.loop-digit.invariant.within)
