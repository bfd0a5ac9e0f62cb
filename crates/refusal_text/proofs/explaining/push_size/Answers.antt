use Rattle.refusal_text.proofs.Messages.{three_pieces}
use Rattle.refusal_text.proofs.explaining.push_size.Goals as goal

pub returns : goal.returns
returns c = three_pieces _ _ _ _ _ _ _ c.in_ok-push_str.ensures.bytes c.in_ok-push_str_number.ensures c.in_ok-push_str-2.ensures.bytes
