use Rattle.std.proofs.Common.{not, ap, sym, ◌∙◌}
use Rattle.cancel_scopes.specs.Sight.{seen}
use Rattle.task_machine.specs.Labels.{seen_levels}
use Rattle.task_machine.specs.Worlds.{label_at, event_at}
use Rattle.task_machine.proofs.Catching.{none_first, catches_alike, catches_shielded, catches_outer}
use Rattle.task_machine.proofs.world.World.catches.Goals as goal

pub returns-then-is_none : goal.returns-then-is_none
returns-then-is_none c =
    let world = c.args.self.now in
    λ st e.
    c.may_catch.ensures st e
    ∙ catches_alike (label_at world) (event_at world) c.args.cancelled.now.items world.tick st
    (none_first c.args.cancelled.now.items _ c.front.ensures.item.0 (c.is_none.ensures ∙ ap not c.if-is_none.true))

pub returns-then-is_shielded : goal.returns-then-is_shielded
returns-then-is_shielded c =
    let world = c.args.self.now in
    λ st e.
    catches_shielded (label_at world) (event_at world) c.args.cancelled.now.items world.tick st
    (sym c.if-not-is_cancelled.false ∙ c.is_cancelled.ensures st e)
    (sym c.if-is_shielded.true ∙ c.is_shielded.ensures st e)

pub returns : goal.returns
returns c =
    let world = c.args.self.now in
    λ st e.
    catches_outer (label_at world) (event_at world) c.args.cancelled.now.items world.tick st c.sees_with.result
    (sym c.if-not-is_cancelled.false ∙ c.is_cancelled.ensures st e)
    (c.sees_with.ensures
    ∙ ap (λ x. seen (seen_levels (label_at world) (event_at world) c.args.cancelled.now.items world.tick x) world.tick) (c.parent.ensures.around st e))
    (sym c.if-is_shielded.false ∙ c.is_shielded.ensures st e)
