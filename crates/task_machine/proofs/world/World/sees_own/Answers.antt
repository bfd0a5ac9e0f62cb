use Rattle.std.proofs.Common.{not, ap, ◌∙◌}
use Rattle.cancel_scopes.specs.Tree.{outer_of}
use Rattle.task_machine.specs.Worlds.{label_at, event_at}
use Rattle.task_machine.proofs.Catching.{none_first, sees_alike}
use Rattle.task_machine.proofs.world.World.sees_own.Goals as goal

pub returns-then-is_none : goal.returns-then-is_none
returns-then-is_none c =
    let world = c.args.self.now in
    c.sees.ensures
    ∙ sees_alike (label_at world) (event_at world) c.args.cancelled.now.items world.tick (outer_of world.scopes c.args.scope)
    (none_first c.args.cancelled.now.items _ c.front.ensures.item.0 (c.is_none.ensures ∙ ap not c.if-is_none.true))
