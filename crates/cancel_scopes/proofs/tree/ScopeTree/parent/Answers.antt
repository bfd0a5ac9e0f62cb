use Rattle.cancel_scopes.specs.Kept.{outline_of}
use Rattle.cancel_scopes.proofs.StackLemmas.{kept_where_open, found_at}
use Rattle.cancel_scopes.proofs.ChainLemmas.{parent_open, parent_around}
use Rattle.cancel_scopes.proofs.tree.ScopeTree.parent.Goals as goal

pub index-requires : goal.index-requires
index-requires c =
    kept_where_open c.args.self.now c.self.inside.store.scopes.slots c.id.inside.key c.args.id c.self.view_is c.id.view_is c.requires

pub returns-clause-parent_open : goal.returns-clause-parent_open
returns-clause-parent_open c parent up =
    parent_open c.args.self.now c.self.inside.store.scopes.slots c.id.inside.key parent (outline_of c.index.result.now) c.self.view_is
    c.self.invariant.tree (found_at c.self.inside.store.scopes.slots c.id.inside.key c.index.result.now c.index.ensures) up

pub returns-clause-around : goal.returns-clause-around
returns-clause-around c stack is =
    parent_around c.args.self.now c.self.inside.store.scopes.slots c.id.inside.key c.args.id (outline_of c.index.result.now) stack
    c.self.view_is c.id.view_is c.self.invariant.tree (found_at c.self.inside.store.scopes.slots c.id.inside.key c.index.result.now
    c.index.ensures) is
