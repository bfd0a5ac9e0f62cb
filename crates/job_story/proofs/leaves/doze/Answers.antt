use Rattle.std.proofs.Common.{ℕ, ◌≤◌, ◌<◌, sym, subst, ◌∙◌}
use Rattle.job_story.proofs.Slept.{slept_now, slept_soon, slept_later, slept_never, slept_past}
use Rattle.job_story.proofs.leaves.doze.Goals as goal

pub returns-in_default : goal.returns-in_default
returns-in_default c =
    slept_never _ _ _ _ _ _ _ _ _ _ _ _ _ (sym c.sight.ensures ∙ c.in_default.is) c.in_ok-note_sleep.ensures c.clear.ensures.items
    (rw (← c.wakes_at-end.ensures.wakes) c.at.ensures)

pub returns-then-from-moment : goal.returns-then-from-moment
returns-then-from-moment c =
    slept_now _ _ _ _ _ _ _ _ _ _ _ _ _ _ (sym c.sight.ensures ∙ c.in-Some.is) c.if-from-moment.true c.in_ok-note_cancelled.ensures
    c.clear.ensures.items c.failure.ensures

pub returns-then-from-a_round_after : goal.returns-then-from-a_round_after
returns-then-from-a_round_after c =
    slept_soon _ _ _ _ _ _ _ _ _ _ _ _ _ _ _ (sym c.sight.ensures ∙ c.in-Some.is) c.if-from-moment.false
    (subst (λ (t : ℕ). c.in-Some.from ≤ t) c.a_round_after.ensures c.if-from-a_round_after.true) c.in_ok-note_sleep-2.ensures
    (rw (← c.during_sleep-during.ensures) c.in_ok-note_cancelled-2.ensures) c.clear.ensures.items c.failure-then-from-a_round_after.ensures

pub returns-then-from-end : goal.returns-then-from-end
returns-then-from-end c =
    slept_later _ _ _ _ _ _ _ _ _ _ _ _ _ _ _ (sym c.sight.ensures ∙ c.in-Some.is) c.if-from-moment.false
    (subst (λ (t : ℕ). t < c.in-Some.from) c.a_round_after.ensures c.if-from-a_round_after.false)
    (subst (λ (t : ℕ). c.in-Some.from ≤ t) c.wakes_at-end.ensures.wakes c.if-from-end.true) c.in_ok-note_sleep-2.ensures
    (rw (← c.during_sleep-during.ensures) c.in_ok-note_cancelled-3.ensures) c.clear.ensures.items c.failure-then-from-end.ensures

pub returns : goal.returns
returns c =
    slept_past _ _ _ _ _ _ _ _ _ _ _ _ _ _ (sym c.sight.ensures ∙ c.in-Some.is) c.if-from-moment.false
    (subst (λ (t : ℕ). t < c.in-Some.from) c.a_round_after.ensures c.if-from-a_round_after.false)
    (subst (λ (t : ℕ). t < c.in-Some.from) c.wakes_at-end.ensures.wakes c.if-from-end.false)
    c.in_ok-note_sleep-2.ensures c.clear.ensures.items (rw (← c.wakes_at-end.ensures.wakes) c.at-2.ensures)
