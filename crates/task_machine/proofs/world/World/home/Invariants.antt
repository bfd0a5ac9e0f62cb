use Rattle.std.proofs.Common.{◌≡◌, length}
use Rattle.std.specs.Option.{ForSome}
use Rattle.cancel_scopes.specs.Tree.{IsOpen, outer_of}
use Rattle.task_machine.specs.Labels.{home_key}
use Rattle.task_machine.specs.Worlds.{event_at}
use Rattle.task_machine.proofs.world.World.home.Given as goal

abbrev pub invariant-outwards : goal.invariant-outwards
invariant-outwards l = record {
  lives : ForSome l.at (IsOpen l.self.scopes);
  same : home_key (event_at l.self) (outer_of l.self.scopes l.fn.scope)
      ≡ home_key (event_at l.self) (outer_of l.self.scopes l.at);
}

abbrev pub decreases-outwards : goal.decreases-outwards
decreases-outwards l = length (outer_of l.self.scopes l.at)
