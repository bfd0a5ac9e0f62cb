use Rattle.story_waits.proofs.DeadlockLemmas.{holder_more}
use Rattle.story_waits.proofs.deadlock.put_holder.Goals as goal

pub returns : goal.returns
returns c = λ l. holder_more c.args.holders.now c.insert.new.self c.args.limiter.now c.args.holder c.in_ok-insert.ensures.updates.0 l
