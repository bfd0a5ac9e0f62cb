use Rattle.std.proofs.Common.{Some, None, ◌≡◌, refl, ◌∙◌}
use Rattle.clock.specs.Ticks.{tick_in}
use Rattle.clock.proofs.TickLemmas.{set_at}
use Rattle.clock.proofs.TimerLemmas.{kept_later, kept_same, kept_soon}
use Rattle.clock.proofs.timers.Timers.add.Goals as goal

pub invariant_of-self-2 : goal.invariant_of-self-2
invariant_of-self-2 c =
    let grown = c.grow_to.new.ticks.items in
    let none : tick_in c.args.self.now.ticks c.args.key ≡ None = c.requires in
    let was = rw (← c.self.view_is) at none in
    kept_later c.self.inside.horizon grown _ c.self.inside.order c.insert.new.self c.self.inside.soon_tick c.args.key c.args.tick c.self.inside.soon
    (kept_same c.self.inside.horizon c.self.inside.ticks.items grown c.self.inside.order c.self.inside.soon_tick c.self.inside.soon c.self.invariant
    c.grow_to.ensures.same) (c.grow_to.ensures.same c.args.key ∙ was) c.if-tick-self.false
    c.in_ok-insert.ensures.updates (set_at grown c.args.key (Some c.args.tick) (Some c.args.tick) c.in_ok-grow_to.ensures.room refl)
    c.if-is_soon.ensures

pub invariant_of-self-then-is_soon : goal.invariant_of-self-then-is_soon
invariant_of-self-then-is_soon c =
    let grown = c.grow_to.new.ticks.items in
    let none : tick_in c.args.self.now.ticks c.args.key ≡ None = c.requires in
    let was = rw (← c.self.view_is) at none in
    kept_soon c.self.inside.horizon grown _ c.self.inside.order c.self.inside.soon_tick c.args.key c.args.tick c.self.inside.soon c.push.new.self
    (kept_same c.self.inside.horizon c.self.inside.ticks.items grown c.self.inside.order c.self.inside.soon_tick c.self.inside.soon c.self.invariant
    c.grow_to.ensures.same) (c.grow_to.ensures.same c.args.key ∙ was) c.if-tick-self.false
    (set_at grown c.args.key (Some c.args.tick) (Some c.args.tick) c.in_ok-grow_to.ensures.room refl)
    c.if-is_soon.ensures c.in_ok-push.ensures.ok
