use Rattle.story_index.proofs.Noted.{last_more}
use Rattle.story_index.proofs.lasts.note_last.Goals as goal

pub returns : goal.returns
returns c = λ l. last_more c.args.lasts.now c.insert.new.self c.args.event.now.task c.args.event c.in_ok-insert.ensures.updates.0 l
