use Rattle.std.proofs.Common.{◌∙◌, ℕ, ap, is_some, ◌+◌}
use Rattle.std.specs.Prelude.{◌||◌}
use Rattle.cancel_scopes.specs.Sight.{before, sight}
use Rattle.cancel_scopes.specs.Tree.{is_changed, after_cancel}
use Rattle.cancel_scopes.proofs.StackLemmas.{kept_where_open}
use Rattle.cancel_scopes.proofs.FreshLemmas.{fresh-along}
use Rattle.cancel_scopes.proofs.SlotLemmas.{written}
use Rattle.cancel_scopes.proofs.ReadyLemmas.{cancelled-tree, cancelled-starts, cancelled-ready, cancelled-stacks, cancelled-marks}
use Rattle.cancel_scopes.proofs.tree.ScopeTree.cancel.Goals as goal

pub index_mut-scope-requires : goal.index_mut-scope-requires
index_mut-scope-requires c =
    kept_where_open c.args.self.now c.self.inside.store.scopes.slots c.id.inside.key c.args.id c.self.view_is c.id.view_is c.requires.id

pub lower_from-requires-clause-kept : goal.lower_from-requires-clause-kept
lower_from-requires-clause-kept c =
    ap is_some (written c.self.inside.store.scopes.slots c.id.inside.key c.index_mut-scope.result.now _ c.index_mut-scope.ensures.value)

pub lower_from-requires-clause-starts : goal.lower_from-requires-clause-starts
lower_from-requires-clause-starts c =
    cancelled-starts c.self.inside.store.scopes.slots c.id.inside.key c.args.tick c.index_mut-scope.result.now c.earlier-scope.result
    c.self.inside.store.changed.items c.index_mut-scope.ensures.value c.earlier-scope.ensures c.self.invariant.tree c.self.invariant.family
    c.self.invariant.sights c.self.invariant.listed

pub invariant_of-self : goal.invariant_of-self
invariant_of-self c =
    rw (c.lower_from.ensures.changed_room, c.lower_from.ensures.lowered_room)
    (cancelled-ready c.self.inside.store.scopes.slots c.id.inside.key c.args.tick c.index_mut-scope.result.now c.earlier-scope.result
    c.lower_from.new.self.scopes.slots c.lower_from.new.self.changed.items _ _ _ c.index_mut-scope.ensures.value c.earlier-scope.ensures
    c.self.invariant.tree c.self.invariant.family
    c.lower_from.ensures.along c.lower_from.ensures.right c.lower_from.ensures.listed c.self.invariant.changed_fits
    c.lower_from.ensures.none_lowered c.self.invariant.lowered_fits)

pub returns-clause-stacks : goal.returns-clause-stacks
returns-clause-stacks c =
    cancelled-stacks c.self.inside.store.scopes.slots c.id.inside.key c.args.tick c.index_mut-scope.result.now c.earlier-scope.result
    c.args.self.now c.lower_from.new.self.scopes.slots c.args.id c.index_mut-scope.ensures.value c.earlier-scope.ensures c.self.view_is
    c.id.view_is (fresh-along (c.args.tick + 1) _ c.lower_from.new.self.scopes.slots c.lower_from.ensures.along
    (cancelled-tree c.self.inside.store.scopes.slots c.id.inside.key c.args.tick c.index_mut-scope.result.now c.earlier-scope.result
    c.index_mut-scope.ensures.value c.earlier-scope.ensures c.self.invariant.tree) c.lower_from.ensures.right)

pub returns-clause-marks : goal.returns-clause-marks
returns-clause-marks c at stack is =
    cancelled-marks c.self.inside.store.scopes.slots c.id.inside.key c.args.tick c.index_mut-scope.result.now c.earlier-scope.result
    c.args.self.now c.lower_from.new.self.scopes.slots c.index_mut-scope.ensures.value c.earlier-scope.ensures c.self.view_is
    c.self.invariant.sights (fresh-along (c.args.tick + 1) _ c.lower_from.new.self.scopes.slots c.lower_from.ensures.along
    (cancelled-tree c.self.inside.store.scopes.slots c.id.inside.key c.args.tick c.index_mut-scope.result.now c.earlier-scope.result
    c.index_mut-scope.ensures.value c.earlier-scope.ensures c.self.invariant.tree) c.lower_from.ensures.right) at stack is
    ∙ ap (λ (n : ℕ). is_changed c.args.self.now at || before (sight (after_cancel n c.args.tick stack)) (sight stack)) c.id.view_is
