use Rattle.std.proofs.Common.{◌≡◌, ◌∙◌, List, ap}
use Rattle.std.specs.Prelude.{None}
use Rattle.job_tokens.specs.declared.token.Token.{Token}
use Rattle.refusal_text.specs.Scanning.{last_before}
use Rattle.refusal_text.specs.Hinting.{advice_hint, token_advice}
use Rattle.refusal_text.proofs.Messages.{of_tokens}
use Rattle.refusal_text.proofs.hinting.token_hint.Goals as goal

pub returns : goal.returns
returns c =
    let text = c.args.text.now in
    let at = c.args.at in
    of_tokens text _ c.as_slice.result.now c.in_ok-lexed.lexed.fault
    (λ (ts : List Token). c.advice_hint.result ≡ advice_hint (token_advice text at (last_before at None ts)))
    c.in_ok-lexed.ensures.tokens c.as_slice.ensures.value
    (c.advice_hint.ensures ∙ ap advice_hint (c.token_advice.ensures ∙ ap (token_advice text at) c.last_before-before.ensures))
