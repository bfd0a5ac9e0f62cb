use Rattle.std.proofs.Common.{ℕ, List, ◌++◌, ap, ◌∙◌}
use Rattle.std.specs.String.{string_bytes}
use Rattle.refusal_text.proofs.Messages.{four_pieces}
use Rattle.refusal_text.proofs.explaining.push_some.Goals as goal

pub returns : goal.returns
returns c =
    let head = c.in_ok-push_str.ensures.bytes ∙ ap (λ (x : List ℕ). string_bytes c.args.message.now ++ x) c.list_head.ensures in
    four_pieces _ _ _ _ _ _ _ _ _ head c.in_ok-push_quoted.ensures c.in_ok-push_more.ensures c.in_ok-push_str-2.ensures.bytes
