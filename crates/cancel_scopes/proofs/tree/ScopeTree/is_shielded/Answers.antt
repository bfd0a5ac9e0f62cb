use Rattle.std.proofs.Common.{sym, ap}
use Rattle.cancel_scopes.specs.Tree.{own_shield}
use Rattle.cancel_scopes.specs.Kept.{outline_of}
use Rattle.cancel_scopes.proofs.StackLemmas.{kept_where_open, found_at}
use Rattle.cancel_scopes.proofs.CatchLemmas.{stack_is}
use Rattle.cancel_scopes.proofs.tree.ScopeTree.is_shielded.Goals as goal

pub index-requires : goal.index-requires
index-requires c =
    kept_where_open c.args.self.now c.self.inside.store.scopes.slots c.id.inside.key c.args.id c.self.view_is c.id.view_is c.requires

pub returns : goal.returns
returns c stack is =
    let slots = c.self.inside.store.scopes.slots in
    ap own_shield
    (sym (stack_is c.args.self.now slots c.id.inside.key c.args.id (outline_of c.index.result.now) stack c.self.view_is c.id.view_is
    (found_at slots c.id.inside.key c.index.result.now c.index.ensures) is))
