use Rattle.std.proofs.Common.{ℕ, max, sym, ap, ◌∙◌}
use Rattle.job_story.proofs.Waited.{waited_never, waited_now, waited_cut, waited_past}
use Rattle.job_story.proofs.waits.await_event.Goals as goal

pub returns-in_default : goal.returns-in_default
returns-in_default c =
    waited_never _ _ _ _ _ _ _ _ _ _ _ (sym c.sight.ensures ∙ c.in_default.is) c.in_ok-note_waited.ensures c.clear.ensures.items c.at.ensures

pub returns-then-from-moment : goal.returns-then-from-moment
returns-then-from-moment c =
    waited_now _ _ _ _ _ _ _ _ _ _ _ _ _ (sym c.sight.ensures ∙ c.in-Some.is) c.if-from-moment.true
    (c.max-gives_up.ensures ∙ ap (λ (t : ℕ). max t c.in-Some.from) c.a_round_after.ensures) c.in_ok-note_cancelled.ensures c.clear.ensures.items c.failure.ensures

pub returns-then-from-set : goal.returns-then-from-set
returns-then-from-set c =
    waited_cut _ _ _ _ _ _ _ _ _ _ _ _ _ (sym c.sight.ensures ∙ c.in-Some.is) c.if-from-moment.false c.if-from-set.true
    (c.max-gives_up.ensures ∙ ap (λ (t : ℕ). max t c.in-Some.from) c.a_round_after.ensures) c.in_ok-note_given_up.ensures c.clear.ensures.items
    c.failure-then-from-set.ensures

pub returns : goal.returns
returns c =
    waited_past _ _ _ _ _ _ _ _ _ _ _ _ (sym c.sight.ensures ∙ c.in-Some.is) c.if-from-moment.false c.if-from-set.false
    c.in_ok-note_waited-2.ensures c.clear.ensures.items c.at-2.ensures
