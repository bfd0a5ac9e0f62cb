use Rattle.std.proofs.Common.{◌≡◌, ◌∙◌, ◌<◌, ◌≤◌, ℕ, List, length, sym, ap, refl, subst, arith}
use Rattle.cancel_scopes.specs.Kept.{scope_in, children_at}
use Rattle.cancel_scopes.proofs.WorkLemmas.{along-none, along-then, low_stays, all_children}
use Rattle.cancel_scopes.proofs.store.Store.lower_children.Goals as goal

pub children-init : goal.children-init
children-init c = record {
  state = c.requires.state;
  along = along-none c.args.tick c.args.self.now.scopes.slots;
  work_left = omega arith;
  changed_room = refl;
  lowered_room = refl;
}

pub lower_child-requires-clause-state : goal.lower_child-requires-clause-state
lower_child-requires-clause-state c = c.children.invariant.state

pub lower_child-requires-clause-parent : goal.lower_child-requires-clause-parent
lower_child-requires-clause-parent c =
    low_stays c.args.tick c.args.self.now.scopes.slots c.children.self.scopes.slots c.args.parent c.children.invariant.along
    c.requires.parent

pub lower_child-requires-clause-index : goal.lower_child-requires-clause-index
lower_child-requires-clause-index c =
    let parent = c.index.result.now in
    let same : children_at (scope_in c.children.self.scopes.slots c.args.parent) ≡ parent.children.items =
    c.children.invariant.along.children c.args.parent ∙ ap children_at c.index.ensures in
    let inside : c.children.index < length parent.children.items =
    omega (arith, parent.children.ok.0, c.children-test.true, c.len-index-end.ensures) in
    subst (λ (l : List ℕ). c.children.index < length l) (sym same) inside

pub lower_child-requires-clause-changed_room : goal.lower_child-requires-clause-changed_room
lower_child-requires-clause-changed_room c =
    omega (arith, c.children.invariant.changed_room, c.children.invariant.along.long, c.requires.changed_room)

pub lower_child-requires-clause-lowered_room : goal.lower_child-requires-clause-lowered_room
lower_child-requires-clause-lowered_room c =
    omega (arith, c.children.invariant.lowered_room, c.children.invariant.along.long, c.requires.lowered_room)

pub children-preserved : goal.children-preserved
children-preserved c = record {
  state = c.lower_child.ensures.state;
  along = along-then c.args.tick c.args.self.now.scopes.slots c.children.self.scopes.slots c.lower_child.new.self.scopes.slots
      c.children.invariant.along c.lower_child.ensures.along;
  work_left = omega (arith, c.lower_child.ensures.work, c.children.invariant.work_left);
  changed_room = c.lower_child.ensures.changed_room ∙ c.children.invariant.changed_room;
  lowered_room = c.lower_child.ensures.lowered_room ∙ c.children.invariant.lowered_room;
}

pub returns-clause-state : goal.returns-clause-state
returns-clause-state c =
    let parent = c.index.result.now in
    let same : children_at (scope_in c.children.self.scopes.slots c.args.parent) ≡ parent.children.items =
    c.children.invariant.along.children c.args.parent ∙ ap children_at c.index.ensures in
    let outside : length parent.children.items ≤ c.children.index =
    omega (arith, parent.children.ok.0, c.children-test.false, c.len-index-end.ensures) in
    all_children c.args.tick c.args.parent c.children.index c.children.self.scopes.slots c.children.self.changed.items
    c.children.self.lowered.items
    (subst (λ (l : List ℕ). length l ≤ c.children.index) (sym same) outside) c.children.invariant.state
