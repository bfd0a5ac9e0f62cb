use Rattle.std.proofs.Common.{◌≡◌, List}
use Rattle.std.specs.Prelude.{None}
use Rattle.job_tokens.specs.declared.token.Token.{Token}
use Rattle.refusal_text.specs.Scanning.{shape_at, last_before}
use Rattle.refusal_text.specs.Hinting.{reserved_name_hint}
use Rattle.refusal_text.proofs.Messages.{of_tokens, helps_reserved}
use Rattle.refusal_text.proofs.hinting.reserved_hint.Goals as goal

pub returns : goal.returns
returns c =
    let text = c.args.text.now in
    let at = c.args.at in
    of_tokens text _ c.as_slice-tokens.result.now c.in_ok-lexed.lexed.fault
    (λ (ts : List Token). c.reserved_name_hint.result ≡ reserved_name_hint (last_before at None ts) (shape_at at ts))
    c.in_ok-lexed.ensures.tokens c.as_slice-tokens.ensures.value
    (helps_reserved at c.as_slice-tokens.result.now _ _ _ c.last_before.ensures c.shape_at.ensures c.reserved_name_hint.ensures)
