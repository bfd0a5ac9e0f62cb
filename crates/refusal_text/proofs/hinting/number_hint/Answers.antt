use Rattle.std.proofs.Common.{◌≡◌, List, ap, drop}
use Rattle.std.specs.Prelude.{None, Some}
use Rattle.job_tokens.specs.declared.token.Token.{Token}
use Rattle.job_reader.specs.Refusals.{format_of}
use Rattle.job_hints.specs.declared.advice.Advice.{Advice}
use Rattle.job_hints.specs.Numbers.{number_advice}
use Rattle.refusal_text.specs.declared.hinting.Hint.TheVariants as hint
use Rattle.refusal_text.specs.Scanning.{last_before, earlier_before}
use Rattle.refusal_text.proofs.Messages.{of_tokens, helps_number}
use Rattle.refusal_text.proofs.hinting.number_hint.Goals as goal

pub returns : goal.returns
returns c =
    let text = c.args.text.now in
    let at = c.args.at in
    of_tokens text _ c.as_slice-tokens.result.now c.in_ok-lexed.lexed.fault
    (λ (ts : List Token). Some (hint.Advice c.number_advice-advice.result)
    ≡ Some (hint.Advice (number_advice (format_of text) (earlier_before at None None ts) (last_before at None ts) (drop at text))))
    c.in_ok-lexed.ensures.tokens c.as_slice-tokens.ensures.value
    (ap (λ (a : Advice). Some (hint.Advice a)) (helps_number c.in_ok-lexed.lexed.format text at c.as_slice-tokens.result.now _ _ _ _
    c.in_ok-lexed.ensures.format c.earlier_before-earlier.ensures c.last_before-before.ensures c.rest_from.ensures
    c.number_advice-advice.ensures))
