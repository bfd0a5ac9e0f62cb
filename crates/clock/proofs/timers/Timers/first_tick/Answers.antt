use Rattle.clock.proofs.TimerLemmas.{earliest_seen}
use Rattle.clock.proofs.timers.Timers.first_tick.Goals as goal

pub returns-clause-first : goal.returns-clause-first
returns-clause-first c =
    let live = rw c.deref.ensures.value at c.has_live-is_soon.ensures.live in
    rw (← c.self.view_is)
    (earliest_seen c.self.inside.horizon c.self.inside.ticks.items c.self.inside.order c.self.inside.soon_tick c.self.inside.soon c.self.invariant
    c.has_live-is_soon.result c.first_pair-later.result c.earlier_tick.result live c.first_pair-later.ensures c.earlier_tick.ensures)
