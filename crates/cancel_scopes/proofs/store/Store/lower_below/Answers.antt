use Rattle.std.proofs.Common.{◌≡◌, ◌∙◌, ◌+◌, ℕ, List, [], ◌∷◌, length, ap, refl, subst, arith}
use Rattle.std.proofs.lemmas.List.{length-append, nil_from_length}
use Rattle.cancel_scopes.specs.Lowering.{Lowering, below}
use Rattle.cancel_scopes.proofs.WorkLemmas.{along-none, along-then, popped, popped_low, all_done}
use Rattle.cancel_scopes.proofs.store.Store.lower_below.Goals as goal

pub below-init : goal.below-init
below-init c = record {
  state = c.requires.state;
  along = along-none c.args.tick c.args.self.now.scopes.slots;
  changed_room = refl;
  lowered_room = refl;
}

pub below-preserved : goal.below-preserved
below-preserved c = record {
  state = c.lower_children.ensures.state;
  along = along-then c.args.tick c.args.self.now.scopes.slots c.below.self.scopes.slots c.lower_children.new.self.scopes.slots
      c.below.invariant.along c.lower_children.ensures.along;
  changed_room = c.lower_children.ensures.changed_room ∙ c.below.invariant.changed_room;
  lowered_room = c.lower_children.ensures.lowered_room ∙ c.pop.ensures.capacity ∙ c.below.invariant.lowered_room;
}

pub below-smaller : goal.below-smaller
below-smaller c =
    let e : length c.below.self.lowered.items ≡ length c.pop.new.self.items + 1 =
    ap length c.in-Some.ensures.items ∙ length-append c.pop.new.self.items (c.in-Some.parent ∷ []) in
    omega (arith, c.lower_children.ensures.work, e)

pub lower_children-requires-clause-state : goal.lower_children-requires-clause-state
lower_children-requires-clause-state c =
    popped c.args.tick c.in-Some.parent c.below.self.scopes.slots c.below.self.changed.items c.pop.new.self.items
    (subst (λ (l : List ℕ). Lowering c.args.tick (below l) c.below.self.scopes.slots c.below.self.changed.items l) c.in-Some.ensures.items
    c.below.invariant.state)

pub lower_children-requires-clause-parent : goal.lower_children-requires-clause-parent
lower_children-requires-clause-parent c =
    popped_low c.args.tick c.in-Some.parent c.below.self.scopes.slots c.below.self.changed.items c.pop.new.self.items
    (subst (λ (l : List ℕ). Lowering c.args.tick (below l) c.below.self.scopes.slots c.below.self.changed.items l) c.in-Some.ensures.items
    c.below.invariant.state)

pub returns-clause-right : goal.returns-clause-right
returns-clause-right c =
    let none : c.below.self.lowered.items ≡ [] =
    nil_from_length c.below.self.lowered.items (omega (arith, c.below.self.lowered.ok.0, c.in_default.ensures.cases.0)) in
    all_done c.args.tick c.below.self.scopes.slots c.below.self.changed.items
    (subst (λ (l : List ℕ). Lowering c.args.tick (below l) c.below.self.scopes.slots c.below.self.changed.items l) none
    c.below.invariant.state)
