use Rattle.refusal_text.proofs.Messages.{helps_twice}
use Rattle.refusal_text.proofs.hinting.twice_hint.Goals as goal

pub returns : goal.returns
returns c =
    let lexed = c.in_ok-lexed.lexed in
    helps_twice lexed.format c.args.text.now _ c.as_slice-tokens.result.now _ c.as_slice.result.now lexed.fault _ c.args.at _ _
    c.in_ok-lexed.ensures.format c.in_ok-lexed.ensures.tokens c.as_slice-tokens.ensures.value c.as_slice.ensures.value
    c.in_ok-checked.ensures.fault c.in_ok-checked.ensures.roles c.shape_at.ensures c.first_given_hint.ensures
