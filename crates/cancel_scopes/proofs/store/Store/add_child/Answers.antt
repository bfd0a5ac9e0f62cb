use Rattle.std.proofs.Common.{refl, subst}
use Rattle.cancel_scopes.specs.Children.{HasIndex, Orphaned}
use Rattle.cancel_scopes.proofs.ChildLemmas.{outlines-none, added-none, added-outlines, added, index_same, index_kept}
use Rattle.cancel_scopes.proofs.store.Store.add_child.Goals as goal

pub index_mut-scope-requires : goal.index_mut-scope-requires
index_mut-scope-requires c =
    let slots = c.args.self.now.scopes.slots in
    index_kept slots c.in-Some.parent c.in-Some.parent refl (subst (HasIndex slots) c.in-Some.is c.requires.parent)

pub push_reserved-requires : goal.push_reserved-requires
push_reserved-requires c =
    let slots = c.args.self.now.scopes.slots in
    index_same slots c.in-Some.parent c.in-Some.parent c.index_mut-scope.result.now refl
    (subst (HasIndex slots) c.in-Some.is c.requires.parent) c.index_mut-scope.ensures.value

pub returns-in_default-clause-same : goal.returns-in_default-clause-same
returns-in_default-clause-same c = outlines-none c.args.self.now.scopes.slots

pub returns-in_default-clause-family : goal.returns-in_default-clause-family
returns-in_default-clause-family c =
    let slots = c.args.self.now.scopes.slots in
    added-none slots c.args.key (subst (Orphaned slots c.args.key) c.in_default.is c.requires.orphan)

pub returns-clause-same : goal.returns-clause-same
returns-clause-same c =
    added-outlines c.args.self.now.scopes.slots c.args.key c.in-Some.parent c.index_mut-scope.result.now _ c.index_mut-scope.ensures.value
    refl refl refl

pub returns-clause-family : goal.returns-clause-family
returns-clause-family c =
    let slots = c.args.self.now.scopes.slots in
    added slots c.args.key c.in-Some.parent c.index_mut-scope.result.now _ c.index_mut-scope.ensures.value refl refl
    c.push_reserved.ensures.items
    (subst (Orphaned slots c.args.key) c.in-Some.is c.requires.orphan)
