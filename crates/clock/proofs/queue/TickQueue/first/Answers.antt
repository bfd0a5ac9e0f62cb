use Rattle.clock.proofs.TickLemmas.{first_seen}
use Rattle.clock.proofs.queue.TickQueue.first.Goals as goal

pub returns : goal.returns
returns c =
    rw (c.copied.ensures, ← c.self.view_is) (first_seen c.self.inside.ticks.items c.self.inside.order c.first.result c.self.invariant
    c.first.ensures.variant c.first.ensures.member c.first.ensures.least)
