use Rattle.std.proofs.Common.{◌≡◌, sym, ◌∙◌, arith}
use Rattle.cancel_scopes.proofs.IndexLemmas.{some_same}
use Rattle.clock.proofs.ClockLemmas.{same_clock, first_is_next, late_next}
use Rattle.clock.proofs.clock.MockClock.jump.Goals.{in-Some, in-None}
use Rattle.clock.proofs.clock.MockClock.jump.Goals as goal

pub returns-then-next-self : goal.returns-then-next-self
returns-then-next-self c =
    rw (← c.self.view_is)
    (elim c.match-first_tick.branch [
      | in-Some w ↦
          let next_is : c.in-Some-next.next ≡ w.earlier_of.result =
          some_same c.in-Some-next.next w.earlier_of.result (sym c.in-Some-next.is ∙ w.next-is) in
          record {
            next = c.in-Some-next.next;
            is_next = rw (next_is ∙ w.earlier_of.ensures)
                (first_is_next _ c.args.next_cancel _ (rw w.in-Some.is at c.first_tick.ensures.first));
            late = c.if-next-self.true;
            unchanged = same_clock _ c.first_tick.new.self.ticks c.first_tick.ensures.same;
          }
      | in-None w ↦
          let far = rw (w.in-None.is, c.self.invariant.bounded) at c.first_tick.ensures.first in
          late_next _ c.args.next_cancel c.first_tick.new.self.ticks far
          (λ cancel e.
          let same : c.in-Some-next.next ≡ cancel = some_same c.in-Some-next.next cancel (sym c.in-Some-next.is ∙ w.next-is ∙ e) in
          omega (arith, same, c.if-next-self.true))
          (rw (← c.self.view_is) at c.requires.some) c.first_tick.ensures.same
    ])

pub returns-in_default : goal.returns-in_default
returns-in_default c =
    rw (← c.self.view_is)
    (elim c.match-first_tick.branch [
      | in-Some w ↦ absurd (c.in_default.not-Some _ w.next-is)
      | in-None w ↦
          let far = rw (w.in-None.is, c.self.invariant.bounded) at c.first_tick.ensures.first in
          late_next _ c.args.next_cancel c.first_tick.new.self.ticks far
          (λ cancel e. absurd (c.in_default.not-Some cancel (w.next-is ∙ e)))
          (rw (← c.self.view_is) at c.requires.some) c.first_tick.ensures.same
    ])
