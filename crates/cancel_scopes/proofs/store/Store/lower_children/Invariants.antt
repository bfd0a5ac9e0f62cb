use Rattle.std.proofs.Common.{◌≡◌, ◌≤◌, vec_capacity}
use Rattle.cancel_scopes.specs.Lowering.{Lowering, Along, or_child, work}
use Rattle.cancel_scopes.proofs.store.Store.lower_children.Given as goal

abbrev pub invariant-children : goal.invariant-children
invariant-children l = record {
  state : Lowering l.tick (or_child l.parent l.index l.self.lowered.items) l.self.scopes.slots l.self.changed.items l.self.lowered.items;
  along : Along l.tick l.fn.self.scopes.slots l.self.scopes.slots;
  work_left : work l.tick l.self.scopes.slots l.self.lowered.items ≤ work l.tick l.fn.self.scopes.slots l.fn.self.lowered.items;
  changed_room : vec_capacity l.self.changed ≡ vec_capacity l.fn.self.changed;
  lowered_room : vec_capacity l.self.lowered ≡ vec_capacity l.fn.self.lowered;
}
