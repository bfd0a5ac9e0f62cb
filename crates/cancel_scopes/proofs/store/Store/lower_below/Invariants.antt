use Rattle.std.proofs.Common.{◌≡◌, vec_capacity}
use Rattle.cancel_scopes.specs.Lowering.{Lowering, Along, below, work}
use Rattle.cancel_scopes.proofs.store.Store.lower_below.Given as goal

abbrev pub invariant-below : goal.invariant-below
invariant-below l = record {
  state : Lowering l.tick (below l.self.lowered.items) l.self.scopes.slots l.self.changed.items l.self.lowered.items;
  along : Along l.tick l.fn.self.scopes.slots l.self.scopes.slots;
  changed_room : vec_capacity l.self.changed ≡ vec_capacity l.fn.self.changed;
  lowered_room : vec_capacity l.self.lowered ≡ vec_capacity l.fn.self.lowered;
}

abbrev pub decreases-below : goal.decreases-below
decreases-below l = work l.tick l.self.scopes.slots l.self.lowered.items
