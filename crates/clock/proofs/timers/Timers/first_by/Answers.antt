use Rattle.clock.proofs.TimerLemmas.{first_seen}
use Rattle.clock.proofs.timers.Timers.first_by.Goals as goal

pub returns-clause-first : goal.returns-clause-first
returns-clause-first c =
    let soon = rw c.deref.ensures.value at c.soon_by-soon.ensures.first in
    let within = rw (← c.self.view_is) at c.requires in
    rw (← c.self.view_is)
    (first_seen c.self.inside.horizon c.self.inside.ticks.items c.self.inside.order c.self.inside.soon_tick c.args.now c.self.inside.soon c.self.invariant within
    c.soon_by-soon.result c.later_by-later.result c.first_of.result soon c.later_by-later.ensures c.first_of.ensures)
