use Rattle.std.proofs.Common.{Some, None, ◌≡◌, ◌<◌, refl, arith, sym, ◌∙◌, length}
use Rattle.std.proofs.lemmas.List.{get_or_read}
use Rattle.clock.specs.Ticks.{tick_in}
use Rattle.clock.proofs.TickLemmas.{set_at}
use Rattle.clock.proofs.TimerLemmas.{kept_removed}
use Rattle.clock.proofs.timers.Timers.remove.Goals as goal

pub invariant_of-self-2 : goal.invariant_of-self-2
invariant_of-self-2 c =
    let ticks = c.self.inside.ticks.items in
    let room : c.args.key < length ticks = omega (arith, c.in-Some.ensures.variant.0 refl, c.self.inside.ticks.ok.0) in
    let has : Some c.in-Some-take.tick ≡ tick_in ticks c.args.key =
    sym c.in-Some-take.is ∙ c.take.ensures.value ∙ get_or_read ticks c.args.key c.in-Some.slot.now room c.in-Some.ensures.value None in
    kept_removed c.self.inside.horizon ticks _ c.self.inside.order c.remove.new.self c.self.inside.soon_tick c.args.key c.in-Some-take.tick c.self.inside.soon
    c.take_last.new.self c.self.invariant has c.if-tick-self.false c.remove.ensures.updates (set_at ticks c.args.key c.take.new.self None room c.take.ensures.after)
    c.take_last.ensures.kept
