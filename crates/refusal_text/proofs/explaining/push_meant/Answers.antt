use Rattle.std.proofs.Common.{◌∙◌, ◌++◌, List, ℕ, ap, map}
use Rattle.std.specs.String.{string_bytes}
use Rattle.refusal_text.specs.Explaining.{shown_byte}
use Rattle.refusal_text.proofs.Messages.{three_pieces}
use Rattle.refusal_text.proofs.explaining.push_meant.Goals as goal

pub returns : goal.returns
returns c =
    three_pieces _ _ _ _ _ _ _ c.in_ok-push_str.ensures.bytes
    (c.in_ok-push_shown.ensures ∙ ap (λ (x : List ℕ). string_bytes c.push_str.new.self ++ map shown_byte x) c.bytes.ensures)
    c.in_ok-push_str-2.ensures.bytes
