use Rattle.std.proofs.Common.{◌≡◌, ◌≤◌, ◌<◌, ◌-◌, ℕ, List, length, get_or, subst, arith}
use Rattle.std.proofs.lemmas.List.{get_or_read}
use Rattle.cancel_scopes.proofs.ReadyLemmas.{marked-ready, marked-stacks, marked-others, marked-here, marked-open, none_marked, last_marked}
use Rattle.cancel_scopes.proofs.tree.ScopeTree.take_changed.Goals as goal

pub returns-in_default-clause-taken : goal.returns-in_default-clause-taken
returns-in_default-clause-taken c =
    let empty : length c.deref.result.now ≤ 0 = c.in_default.ensures.item.3 in
    none_marked c.args.self.now c.self.inside.store.scopes.slots c.self.inside.store.changed.items c.self.view_is c.self.invariant.listed
    (subst (λ (l : List ℕ). length l ≤ 0) c.deref.ensures.value empty)

pub invariant_of-self : goal.invariant_of-self
invariant_of-self c =
    rw (c.unmark.ensures.room, c.unmark.ensures.lowered)
    (marked-ready c.self.inside.store.scopes.slots c.unmark.new.self.scopes.slots c.self.inside.store.changed.items
    c.unmark.new.self.changed.items _ _ _
    c.self.invariant c.unmark.ensures.marks.same c.unmark.ensures.listed)

pub returns-clause-stacks : goal.returns-clause-stacks
returns-clause-stacks c =
    marked-stacks c.args.self.now c.self.inside.store.scopes.slots c.unmark.new.self.scopes.slots c.self.view_is c.unmark.ensures.marks.same

pub returns-clause-taken : goal.returns-clause-taken
returns-clause-taken c =
    let key = c.in-Some.last.now in
    let slots = c.self.inside.store.scopes.slots in
    let some : 0 < length c.deref.result.now = c.in-Some.ensures.item.3.0 in
    let last : key ≡ get_or c.deref.result.now (length c.deref.result.now - 1) 0 =
    get_or_read c.deref.result.now (length c.deref.result.now - 1) key (omega (arith, some)) c.in-Some.ensures.item.1 0 in
    let marked =
    last_marked c.args.self.now slots c.self.inside.store.changed.items key c.self.view_is c.self.invariant.listed
    (subst (λ (l : List ℕ). 0 < length l) c.deref.ensures.value some)
    (subst (λ (l : List ℕ). key ≡ get_or l (length l - 1) 0) c.deref.ensures.value last) in
    record {
      was_open = marked-open c.args.self.now slots key c.self.view_is marked;
      was = marked;
      is = marked-here slots c.unmark.new.self.scopes.slots key _ c.unmark.ensures.marks;
      others = marked-others c.args.self.now slots c.unmark.new.self.scopes.slots key _ c.self.view_is c.unmark.ensures.marks;
    }
