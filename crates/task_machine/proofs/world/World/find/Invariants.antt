use Rattle.std.proofs.Common.{◌≡◌, length}
use Rattle.std.specs.Option.{ForSome}
use Rattle.cancel_scopes.specs.Tree.{IsOpen, outer_of}
use Rattle.task_machine.specs.Labels.{scope_named}
use Rattle.task_machine.specs.Worlds.{label_at, event_at}
use Rattle.task_machine.proofs.world.World.find.Given as goal

abbrev pub invariant-outwards : goal.invariant-outwards
invariant-outwards l = record {
  lives : ForSome l.at (IsOpen l.self.scopes);
  same : scope_named l.events (label_at l.self) (event_at l.self) l.name (outer_of l.self.scopes l.fn.scope)
      ≡ scope_named l.events (label_at l.self) (event_at l.self) l.name (outer_of l.self.scopes l.at);
}

abbrev pub decreases-outwards : goal.decreases-outwards
decreases-outwards l = length (outer_of l.self.scopes l.at)
