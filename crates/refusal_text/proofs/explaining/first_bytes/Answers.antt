use Rattle.refusal_text.proofs.Messages.{cut_front}
use Rattle.refusal_text.proofs.explaining.first_bytes.Goals as goal

pub returns : goal.returns
returns c = cut_front c.args.bytes.now _ 40 c.min.result c.split_at.ensures.front c.min.ensures
