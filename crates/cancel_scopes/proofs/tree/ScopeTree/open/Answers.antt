use Rattle.std.proofs.Common.{◌≡◌, ◌∙◌, ◌≤◌, length, refl, sym, ap, arith, rules, vec_capacity}
use Rattle.cancel_scopes.specs.declared.store.Scope.{Scope}
use Rattle.cancel_scopes.specs.Tree.{Tree, stack_of, is_changed, SameStacks}
use Rattle.cancel_scopes.specs.Kept.{outline_of, tree_of}
use Rattle.cancel_scopes.proofs.StackLemmas.{kept_where_open, tree_of-same}
use Rattle.cancel_scopes.proofs.ChildLemmas.{orphaned, index_stays}
use Rattle.cancel_scopes.proofs.ReadyLemmas.{roomier-ready}
use Rattle.cancel_scopes.proofs.OpenLemmas.{Inserts, opens, fresh, opened, opened-others, opened-ready, opened-marks, opened-unmarked}
use Rattle.cancel_scopes.proofs.tree.ScopeTree.open.Goals as goal

pub make_room-requires : goal.make_room-requires
make_room-requires c = record {
  parent = λ parent is. kept_where_open c.args.self.now c.self.inside.store.scopes.slots parent parent c.self.view_is refl
      (c.requires.parent_open parent (sym c.key_of-parent.ensures ∙ is));
}

pub invariant_of-self : goal.invariant_of-self
invariant_of-self c =
    let room = c.make_room.ensures in
    roomier-ready c.self.inside.store.scopes.slots c.make_room.new.self.scopes.slots c.self.inside.store.changed.items
    c.make_room.new.self.changed.items _ _ _ _ _ _
    c.self.invariant room.same room.marks room.changed room.changed_grows room.lowered room.lowered_grows

pub returns-in_err-make_room-clause-err : goal.returns-in_err-make_room-clause-err
returns-in_err-make_room-clause-err c =
    let room = c.make_room.ensures in
    let slots = c.make_room.new.self.scopes.slots in
    let seen : tree_of slots ≡ c.args.self.now =
    tree_of-same c.self.inside.store.scopes.slots slots room.same.long room.same.finds room.marks ∙ c.self.view_is in
    let stays : SameStacks c.args.self.now (tree_of slots) = λ at. ap (λ (t : Tree). stack_of t at) seen in
    search (rules, stays)

pub add_child-requires-clause-parent : goal.add_child-requires-clause-parent
add_child-requires-clause-parent c =
    let put = c.insert_reserved-key.ensures in
    index_stays c.make_room.new.self.scopes.slots c.insert_reserved-key.new.self.slots c.insert_reserved-key.result
    c.scope_under-scope.result c.key_of-parent.result
    put.was_vacant put.updates.others c.in_ok-make_room.ensures.index

pub add_child-requires-clause-orphan : goal.add_child-requires-clause-orphan
add_child-requires-clause-orphan c =
    let put = c.insert_reserved-key.ensures in
    let room = c.make_room.ensures in
    let ready =
    roomier-ready c.self.inside.store.scopes.slots c.make_room.new.self.scopes.slots c.self.inside.store.changed.items
    c.make_room.new.self.changed.items _ _ _ _ _ _
    c.self.invariant room.same room.marks room.changed room.changed_grows room.lowered room.lowered_grows in
    let made = c.scope_under-scope.ensures in
    orphaned c.make_room.new.self.scopes.slots c.insert_reserved-key.new.self.slots c.insert_reserved-key.result c.scope_under-scope.result
    c.key_of-parent.result
    ready.family put.was_vacant put.updates.changed put.updates.others made.parent made.childless made.index

pub invariant_of-self-2 : goal.invariant_of-self-2
invariant_of-self-2 c =
    let room = c.make_room.ensures in
    let put = c.insert_reserved-key.ensures in
    let made = c.scope_under-scope.ensures in
    let child = c.add_child.ensures in
    let slots = c.make_room.new.self.scopes.slots in
    let inserted = c.insert_reserved-key.new.self.slots in
    let s : Scope = c.scope_under-scope.result in
    let key = c.insert_reserved-key.result in
    let ready =
    roomier-ready c.self.inside.store.scopes.slots slots c.self.inside.store.changed.items c.make_room.new.self.changed.items _ _ _ _ _ _
    c.self.invariant room.same room.marks room.changed room.changed_grows room.lowered room.lowered_grows in
    let inserts : Inserts slots inserted key s =
    record { free = put.was_vacant; kept = put.updates.changed; others = put.updates.others; under = made.under } in
    let fits : length c.add_child.new.self.scopes.slots ≤ vec_capacity c.make_room.new.self.changed =
    omega (
      arith,
      child.same.long,
      c.capacity-capacity.ensures.slots,
      c.capacity-capacity.ensures.value,
      put.capacity,
      c.in_ok-make_room.ensures.changed_room,
    ) in
    let lowered_fits : length c.add_child.new.self.scopes.slots ≤ vec_capacity c.make_room.new.self.lowered =
    omega (
      arith,
      child.same.long,
      c.capacity-capacity.ensures.slots,
      c.capacity-capacity.ensures.value,
      put.capacity,
      c.in_ok-make_room.ensures.lowered_room,
    ) in
    rw (child.changed, child.lowered)
    (opened-ready slots inserted key s c.add_child.new.self.scopes.slots c.make_room.new.self.changed.items _ _ _ _ _ _ _
    c.key_of-parent.result c.args.shield c.args.deadline
    ready inserts made.parent made.shield made.from made.sight made.unmarked child.same child.family refl fits ready.none_lowered
    lowered_fits)

pub returns-clause-fresh : goal.returns-clause-fresh
returns-clause-fresh c =
    let room = c.make_room.ensures in
    let slots = c.make_room.new.self.scopes.slots in
    let seen : tree_of slots ≡ c.args.self.now =
    tree_of-same c.self.inside.store.scopes.slots slots room.same.long room.same.finds room.marks ∙ c.self.view_is in
    fresh c.args.self.now slots c.insert_reserved-key.result seen c.insert_reserved-key.ensures.was_vacant

pub returns-clause-opened : goal.returns-clause-opened
returns-clause-opened c =
    let room = c.make_room.ensures in
    let put = c.insert_reserved-key.ensures in
    let made = c.scope_under-scope.ensures in
    let child = c.add_child.ensures in
    let slots = c.make_room.new.self.scopes.slots in
    let inserted = c.insert_reserved-key.new.self.slots in
    let s : Scope = c.scope_under-scope.result in
    let key = c.insert_reserved-key.result in
    let ready =
    roomier-ready c.self.inside.store.scopes.slots slots c.self.inside.store.changed.items c.make_room.new.self.changed.items _ _ _ _ _ _
    c.self.invariant room.same room.marks room.changed room.changed_grows room.lowered room.lowered_grows in
    let seen : tree_of slots ≡ c.args.self.now =
    tree_of-same c.self.inside.store.scopes.slots slots room.same.long room.same.finds room.marks ∙ c.self.view_is in
    let inserts : Inserts slots inserted key s =
    record { free = put.was_vacant; kept = put.updates.changed; others = put.updates.others; under = made.under } in
    ap (λ (t : Tree). stack_of t key) (tree_of-same inserted c.add_child.new.self.scopes.slots child.same.long child.same.finds
    child.same.marks)
    ∙ opened c.args.self.now slots inserted key (outline_of s) c.args.parent _ seen (opens slots inserted key s inserts) ready.tree
    (made.parent ∙ c.key_of-parent.ensures) (let e = made in cc)

pub returns-clause-others : goal.returns-clause-others
returns-clause-others c other differs =
    let room = c.make_room.ensures in
    let put = c.insert_reserved-key.ensures in
    let made = c.scope_under-scope.ensures in
    let child = c.add_child.ensures in
    let slots = c.make_room.new.self.scopes.slots in
    let inserted = c.insert_reserved-key.new.self.slots in
    let s : Scope = c.scope_under-scope.result in
    let key = c.insert_reserved-key.result in
    let ready =
    roomier-ready c.self.inside.store.scopes.slots slots c.self.inside.store.changed.items c.make_room.new.self.changed.items _ _ _ _ _ _
    c.self.invariant room.same room.marks room.changed room.changed_grows room.lowered room.lowered_grows in
    let seen : tree_of slots ≡ c.args.self.now =
    tree_of-same c.self.inside.store.scopes.slots slots room.same.long room.same.finds room.marks ∙ c.self.view_is in
    let inserts : Inserts slots inserted key s =
    record { free = put.was_vacant; kept = put.updates.changed; others = put.updates.others; under = made.under } in
    ap (λ (t : Tree). stack_of t other) (tree_of-same inserted c.add_child.new.self.scopes.slots child.same.long child.same.finds
    child.same.marks)
    ∙ opened-others c.args.self.now slots inserted key (outline_of s) seen (opens slots inserted key s inserts) ready.tree other differs

pub returns-clause-unmarked : goal.returns-clause-unmarked
returns-clause-unmarked c =
    let put = c.insert_reserved-key.ensures in
    let child = c.add_child.ensures in
    let key = c.insert_reserved-key.result in
    ap (λ (t : Tree). is_changed t key) (tree_of-same c.insert_reserved-key.new.self.slots c.add_child.new.self.scopes.slots child.same.long
    child.same.finds child.same.marks)
    ∙ opened-unmarked c.make_room.new.self.scopes.slots c.insert_reserved-key.new.self.slots key c.scope_under-scope.result put.updates.changed
    c.scope_under-scope.ensures.unmarked

pub returns-clause-marks : goal.returns-clause-marks
returns-clause-marks c at =
    let room = c.make_room.ensures in
    let put = c.insert_reserved-key.ensures in
    let made = c.scope_under-scope.ensures in
    let child = c.add_child.ensures in
    let slots = c.make_room.new.self.scopes.slots in
    let inserted = c.insert_reserved-key.new.self.slots in
    let s : Scope = c.scope_under-scope.result in
    let key = c.insert_reserved-key.result in
    let seen : tree_of slots ≡ c.args.self.now =
    tree_of-same c.self.inside.store.scopes.slots slots room.same.long room.same.finds room.marks ∙ c.self.view_is in
    let inserts : Inserts slots inserted key s =
    record { free = put.was_vacant; kept = put.updates.changed; others = put.updates.others; under = made.under } in
    ap (λ (t : Tree). is_changed t at) (tree_of-same inserted c.add_child.new.self.scopes.slots child.same.long child.same.finds
    child.same.marks)
    ∙ opened-marks slots inserted key s c.args.self.now seen inserts made.unmarked at
