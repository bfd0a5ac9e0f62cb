use Rattle.std.proofs.Common.{◌≡◌, length}
use Rattle.std.specs.Option.{ForSome}
use Rattle.cancel_scopes.specs.Sight.{seen}
use Rattle.cancel_scopes.specs.Tree.{IsOpen, outer_of}
use Rattle.task_machine.specs.Labels.{seen_levels}
use Rattle.task_machine.specs.Worlds.{label_at, event_at}
use Rattle.task_machine.proofs.world.World.sees_with.Given as goal

abbrev pub invariant-outwards : goal.invariant-outwards
invariant-outwards l = record {
  lives : ForSome l.inside (IsOpen l.self.scopes);
  same : seen (seen_levels (label_at l.self) (event_at l.self) l.cancelled.items l.self.tick (outer_of l.self.scopes l.fn.scope)) l.self.tick
      ≡ seen (seen_levels (label_at l.self) (event_at l.self) l.cancelled.items l.self.tick (outer_of l.self.scopes l.inside)) l.self.tick;
}

abbrev pub decreases-outwards : goal.decreases-outwards
decreases-outwards l = length (outer_of l.self.scopes l.inside)
