use Rattle.clock.proofs.TimerLemmas.{pair_seen}
use Rattle.clock.proofs.timers.first_pair.Goals as goal

pub returns : goal.returns
returns c =
    rw c.copied.ensures
    (pair_seen c.args.order.now c.first.result c.first.ensures.variant c.first.ensures.member c.first.ensures.least)
