use Rattle.std.proofs.Common.{Some, None, ◌≡◌, refl, ap, sym, ◌∙◌, arith}
use Rattle.std.proofs.lemmas.List.{get_or_read}
use Rattle.clock.specs.Ticks.{tick_in}
use Rattle.clock.proofs.TickLemmas.{agree_added, agree_again, agree_moved, agree_same, set_at}
use Rattle.clock.proofs.queue.TickQueue.set.Goals as goal

pub invariant_of-self-in_default : goal.invariant_of-self-in_default
invariant_of-self-in_default c =
    let grown = c.grow_to.new.ticks.items in
    let has : tick_in grown c.args.key ≡ None = sym (get_or_read grown c.args.key c.index_mut.result.now c.in_ok-grow_to.ensures.room c.index_mut.ensures.value None) ∙ sym c.replace.ensures.value ∙ c.in_default.is in
    agree_added grown _ c.self.inside.order c.insert.new.self c.args.key c.args.tick
    (agree_same c.self.inside.ticks.items grown c.self.inside.order c.self.inside.order c.self.invariant c.grow_to.ensures.same refl) has
    c.in_ok-insert.ensures.updates (set_at grown c.args.key c.replace.new.self (Some c.args.tick) c.in_ok-grow_to.ensures.room c.replace.ensures.after)

pub invariant_of-self-then-old-tick : goal.invariant_of-self-then-old-tick
invariant_of-self-then-old-tick c =
    let grown = c.grow_to.new.ticks.items in
    let has : tick_in grown c.args.key ≡ Some c.in-Some.old = sym (get_or_read grown c.args.key c.index_mut.result.now c.in_ok-grow_to.ensures.room c.index_mut.ensures.value None) ∙ sym c.replace.ensures.value ∙ c.in-Some.is in
    agree_moved grown _ c.self.inside.order c.insert.new.self c.remove.new.self c.args.key c.in-Some.old c.args.tick
    (agree_same c.self.inside.ticks.items grown c.self.inside.order c.self.inside.order c.self.invariant c.grow_to.ensures.same refl) has
    (λ same. omega arith) c.in_ok-insert.ensures.updates
    (set_at grown c.args.key c.replace.new.self (Some c.args.tick) c.in_ok-grow_to.ensures.room c.replace.ensures.after)
    c.remove.ensures.updates

pub invariant_of-self-else-old-tick : goal.invariant_of-self-else-old-tick
invariant_of-self-else-old-tick c =
    let grown = c.grow_to.new.ticks.items in
    let same : c.in-Some.old ≡ c.args.tick = omega arith in
    let has : tick_in grown c.args.key ≡ Some c.in-Some.old = sym (get_or_read grown c.args.key c.index_mut.result.now c.in_ok-grow_to.ensures.room c.index_mut.ensures.value None) ∙ sym c.replace.ensures.value ∙ c.in-Some.is in
    agree_again grown _ c.self.inside.order c.insert.new.self c.args.key c.args.tick
    (agree_same c.self.inside.ticks.items grown c.self.inside.order c.self.inside.order c.self.invariant c.grow_to.ensures.same refl)
    (has ∙ ap Some same) c.in_ok-insert.ensures.updates
    (set_at grown c.args.key c.replace.new.self (Some c.args.tick) c.in_ok-grow_to.ensures.room c.replace.ensures.after)
