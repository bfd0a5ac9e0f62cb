use Rattle.refusal_text.proofs.Messages.{helps}
use Rattle.refusal_text.proofs.hinting.syntax_hint.Goals as goal

pub returns : goal.returns
returns c =
    let lexed = c.args.lexed.now in
    helps lexed.format c.args.at lexed.tokens.items c.as_slice-tokens.result.now _ _ _ c.as_slice-tokens.ensures.value
    c.last_before-before.ensures c.shape_at.ensures c.in_ok-hint.ensures
