use Rattle.std.proofs.Common.{◌≡◌, ◌∙◌, ◌++◌, ℕ, List, replicate, ap, refl}
use Rattle.std.specs.String.{string_bytes}
use Rattle.refusal_text.specs.Explaining.{width_before}
use Rattle.refusal_text.proofs.Messages.{pieces, cut_front, cut_back, width_is, before_is, after_is, headed_same}
use Rattle.refusal_text.proofs.Counted.{column_least, shown_inside}
use Rattle.refusal_text.proofs.explaining.message_at.Goals as goal

pub overflow_sub-column : goal.overflow_sub-column
overflow_sub-column c = column_least c.args.text.now c.args.position.at _ c.requires.column_is

pub last_bytes-requires : goal.last_bytes-requires
last_bytes-requires c =
    shown_inside c.args.text.now _ c.args.position.at _ _ (cut_front c.args.text.now _ c.args.position.at _ c.split_at.ensures.front c.min.ensures)
    c.requires.column_is c.min-shown.ensures

pub returns : goal.returns
returns c =
    let text = c.args.text.now in
    let at = c.args.position.at in
    let width : c.min-shown.result ≡ width_before text at = width_is text at _ _ c.requires.column_is c.min-shown.ensures in
    let front = before_is text _ _ at _ (cut_front text _ at _ c.split_at.ensures.front c.min.ensures) width c.last_bytes.ensures in
    let rest = cut_back text _ at _ c.split_at.ensures.back c.min.ensures in
    let back = after_is text _ _ _ at rest c.first_bytes.ensures c.first_line.ensures in
    pieces _ _ _ _ _ _ _ _ _ _ _ _
    (c.in_ok-message.ensures ∙ headed_same c.args.job.now _ _ _ _ _ _ c.requires.line_is c.requires.column_is refl)
    (c.in_ok-push_shown.ensures ∙ ap (λ (x : List ℕ). string_bytes c.in_ok-message.message ++ x) front)
    (c.in_ok-push_shown-2.ensures ∙ ap (λ (x : List ℕ). string_bytes c.push_shown.new.message ++ x) back)
    c.in_ok-push_str.ensures.bytes
    (c.in_ok-push_spaces.ensures ∙ ap (λ (x : ℕ). string_bytes c.push_str.new.self ++ replicate x 32) width)
    c.in_ok-push_str-2.ensures.bytes
