use Rattle.std.proofs.Common.{ℕ, List, sym, ap, subst, ◌∙◌}
use Rattle.cancel_scopes.specs.Sight.{Tick, is_reached}
use Rattle.exceptions.specs.Exceptions.{Label, raised}
use Rattle.job_meaning.specs.Clocks.{tick_of}
use Rattle.job_story.specs.Story.{in_queue, is_cancelled}
use Rattle.job_story.specs.Tell.{failed_at, seer, story_of_one, tell_leaving}
use Rattle.job_story.specs.Heres.{scene_of, scopes_of}
use Rattle.job_story.specs.Tales.{IsStretchOf, Tells}
use Rattle.job_story.proofs.Adding.{adds_like}
use Rattle.job_story.proofs.Queued.{left_cancelled, left_at_last}
use Rattle.job_story.proofs.asks.leave_queue.Goals as goal

pub returns-then-is_reached : goal.returns-then-is_reached
returns-then-is_reached c =
    let here = c.args.here in
    let left = c.leaves_queue-left.result in
    subst (λ (t : ℕ). Tells here.task.now c.args.progress.now.events.items c.failure.result
    (record { events = c.note_cancelled.new.events; cancelled = c.clear.new.self })
    (tell_leaving c.args.ask c.args.object.now (scene_of here) (scopes_of here) c.args.moment t)) c.leaves_queue-left.ensures
    (left_cancelled _ _ _ _ _ c.args.ask c.args.object.now (scene_of here) (scopes_of here) c.args.moment left c.in_ok-note_queue.ensures
    c.clear.ensures.items
    (ap (λ (f : Tick). is_reached f left) (sym c.sight.ensures) ∙ (sym c.is_reached.ensures ∙ c.if-is_reached.true))
    (adds_like _ _ _ _ _ c.in_ok-note_cancelled.ensures
    (ap (λ (l : Label). story_of_one left (is_cancelled (seer (scopes_of here) left) (in_queue c.args.ask l c.args.moment) here.in_cleanup))
    c.in_ok-object.ensures)) c.failure.ensures)

pub returns : goal.returns
returns c =
    let here = c.args.here in
    let left = c.leaves_queue-left.result in
    subst (λ (t : ℕ). Tells here.task.now c.args.progress.now.events.items c.raised.result
    (record { events = c.note_deadlock.new.events; cancelled = c.clear.new.self })
    (tell_leaving c.args.ask c.args.object.now (scene_of here) (scopes_of here) c.args.moment t)) c.leaves_queue-left.ensures
    (left_at_last _ _ _ _ _ c.args.ask c.args.object.now (scene_of here) (scopes_of here) c.args.moment left c.in_ok-note_queue.ensures
    c.clear.ensures.items
    (ap (λ (f : Tick). is_reached f left) (sym c.sight.ensures) ∙ (sym c.is_reached.ensures ∙ c.if-is_reached.false))
    c.in_ok-note_deadlock.ensures
    (λ own story.
    subst (λ (l : Label). IsStretchOf c.raised.result (failed_at (raised _ l (tick_of here.clock left)) (record { at = left; own = own }) story))
    c.in_ok-task.ensures
    (subst (λ (name : List ℕ). IsStretchOf c.raised.result
    (failed_at (raised name c.in_ok-task.task (tick_of here.clock left)) (record { at = left; own = own }) story)) c.deadlock.ensures
    (c.raised.ensures own story))))
