use Rattle.std.proofs.Common.{◌∙◌, sym, refl}
use Rattle.cancel_scopes.specs.Kept.{find_in, around, outline_of}
use Rattle.cancel_scopes.proofs.StackLemmas.{kept_where_open, found_at}
use Rattle.cancel_scopes.proofs.CatchLemmas.{stack_is, stack_around, catches-not, catches-shielded, catches-inner, catches-outermost}
use Rattle.cancel_scopes.proofs.tree.ScopeTree.may_catch.Goals as goal

pub index-scope-requires : goal.index-scope-requires
index-scope-requires c =
    kept_where_open c.args.self.now c.self.inside.store.scopes.slots c.id.inside.key c.args.id c.self.view_is c.id.view_is c.requires

pub returns-then-not-is_reached : goal.returns-then-not-is_reached
returns-then-not-is_reached c stack is =
    catches-not (find_in c.self.inside.store.scopes.slots) c.id.inside.key (outline_of c.index-scope.result.now) c.args.tick stack
    (stack_is c.args.self.now c.self.inside.store.scopes.slots c.id.inside.key c.args.id (outline_of c.index-scope.result.now) stack
    c.self.view_is c.id.view_is (found_at c.self.inside.store.scopes.slots c.id.inside.key c.index-scope.result.now
    c.index-scope.ensures) is)
    (sym c.is_reached.ensures ∙ c.if-not-is_reached.true)

pub seen-requires : goal.seen-requires
seen-requires c =
    rw (stack_around c.args.self.now c.self.inside.store.scopes.slots c.id.inside.key c.in-Some.parent (outline_of c.index-scope.result.now)
    c.self.view_is c.self.invariant.tree (found_at c.self.inside.store.scopes.slots c.id.inside.key c.index-scope.result.now
    c.index-scope.ensures) c.in-Some.is) refl

pub returns-then-scope : goal.returns-then-scope
returns-then-scope c stack is =
    c.if-scope.true
    ∙ catches-shielded (find_in c.self.inside.store.scopes.slots) c.id.inside.key (outline_of c.index-scope.result.now) c.args.tick stack
    (stack_is c.args.self.now c.self.inside.store.scopes.slots c.id.inside.key c.args.id (outline_of c.index-scope.result.now) stack
    c.self.view_is c.id.view_is (found_at c.self.inside.store.scopes.slots c.id.inside.key c.index-scope.result.now
    c.index-scope.ensures) is)
    (sym c.is_reached.ensures ∙ c.if-not-is_reached.false) c.if-scope.true

pub returns-else-scope : goal.returns-else-scope
returns-else-scope c stack is =
    catches-inner (find_in c.self.inside.store.scopes.slots) c.id.inside.key (outline_of c.index-scope.result.now) c.args.tick stack
    c.seen.result
    (stack_is c.args.self.now c.self.inside.store.scopes.slots c.id.inside.key c.args.id (outline_of c.index-scope.result.now) stack
    c.self.view_is c.id.view_is (found_at c.self.inside.store.scopes.slots c.id.inside.key c.index-scope.result.now
    c.index-scope.ensures) is)
    (sym c.is_reached.ensures ∙ c.if-not-is_reached.false)
    c.if-scope.false
    (c.seen.ensures (around (find_in c.self.inside.store.scopes.slots) (outline_of c.index-scope.result.now))
    (stack_around c.args.self.now c.self.inside.store.scopes.slots c.id.inside.key c.in-Some.parent (outline_of c.index-scope.result.now)
    c.self.view_is c.self.invariant.tree (found_at c.self.inside.store.scopes.slots c.id.inside.key c.index-scope.result.now
    c.index-scope.ensures) c.in-Some.is))

pub returns-in-None : goal.returns-in-None
returns-in-None c stack is =
    catches-outermost (find_in c.self.inside.store.scopes.slots) c.id.inside.key (outline_of c.index-scope.result.now) c.args.tick stack
    (stack_is c.args.self.now c.self.inside.store.scopes.slots c.id.inside.key c.args.id (outline_of c.index-scope.result.now) stack
    c.self.view_is c.id.view_is (found_at c.self.inside.store.scopes.slots c.id.inside.key c.index-scope.result.now
    c.index-scope.ensures) is)
    (sym c.is_reached.ensures ∙ c.if-not-is_reached.false)
    (c.self.invariant.tree.placed c.id.inside.key (outline_of c.index-scope.result.now)
    (found_at c.self.inside.store.scopes.slots c.id.inside.key c.index-scope.result.now c.index-scope.ensures))
    c.in-None.is
