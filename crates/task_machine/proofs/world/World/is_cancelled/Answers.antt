use Rattle.std.proofs.Common.{Bool, ◌||◌, ◌&&◌, not, false, ap, sym, ◌∙◌}
use Rattle.task_machine.specs.Labels.{is_sought, has_label_among}
use Rattle.task_machine.specs.Worlds.{label_at, event_at}
use Rattle.task_machine.proofs.Catching.{cancelled_by}
use Rattle.task_machine.proofs.FindLemmas.{not_sought}
use Rattle.task_machine.proofs.world.World.is_cancelled.Goals as goal

pub returns-then-is_cancelled : goal.returns-then-is_cancelled
returns-then-is_cancelled c =
    let world = c.args.self.now in
    λ st e.
    sym (cancelled_by (label_at world) (event_at world) c.args.cancelled.now.items world.tick world.scopes c.stacks_are_chains.ensures.own
    c.args.id st e
    ∙ ap (λ (b : Bool). b || (is_sought false (event_at world c.args.id) && has_label_among (label_at world c.args.id) c.args.cancelled.now.items))
    (sym (c.is_cancelled.ensures st e) ∙ c.if-is_cancelled.true))

pub returns-then-not-is_event : goal.returns-then-not-is_event
returns-then-not-is_event c =
    let world = c.args.self.now in
    let among = has_label_among (label_at world c.args.id) c.args.cancelled.now.items in
    λ st e.
    sym (cancelled_by (label_at world) (event_at world) c.args.cancelled.now.items world.tick world.scopes c.stacks_are_chains.ensures.own
    c.args.id st e
    ∙ ap (λ (b : Bool). b || (is_sought false (event_at world c.args.id) && among))
    (sym (c.is_cancelled.ensures st e) ∙ c.if-is_cancelled.false)
    ∙ ap (λ (b : Bool). b && among)
    (not_sought (event_at world c.args.id) ∙ ap not (sym c.is_event.ensures ∙ c.if-not-is_event.true))
    ∙ sym c.is_among.ensures)

pub returns-else-not-is_event : goal.returns-else-not-is_event
returns-else-not-is_event c =
    let world = c.args.self.now in
    let among = has_label_among (label_at world c.args.id) c.args.cancelled.now.items in
    λ st e.
    sym (cancelled_by (label_at world) (event_at world) c.args.cancelled.now.items world.tick world.scopes c.stacks_are_chains.ensures.own
    c.args.id st e
    ∙ ap (λ (b : Bool). b || (is_sought false (event_at world c.args.id) && among))
    (sym (c.is_cancelled.ensures st e) ∙ c.if-is_cancelled.false)
    ∙ ap (λ (b : Bool). b && among)
    (not_sought (event_at world c.args.id) ∙ ap not (sym c.is_event.ensures ∙ c.if-not-is_event.false))
    ∙ ap not (sym c.if-not-is_event.false))
