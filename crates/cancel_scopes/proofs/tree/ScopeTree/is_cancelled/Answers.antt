use Rattle.std.proofs.Common.{◌∙◌, sym, ap}
use Rattle.cancel_scopes.specs.Sight.{is_reached}
use Rattle.cancel_scopes.specs.Tree.{Stack, own_from}
use Rattle.cancel_scopes.specs.Kept.{outline_of}
use Rattle.cancel_scopes.proofs.StackLemmas.{kept_where_open, found_at}
use Rattle.cancel_scopes.proofs.CatchLemmas.{stack_is}
use Rattle.cancel_scopes.proofs.tree.ScopeTree.is_cancelled.Goals as goal

pub index-requires : goal.index-requires
index-requires c =
    kept_where_open c.args.self.now c.self.inside.store.scopes.slots c.id.inside.key c.args.id c.self.view_is c.id.view_is c.requires

pub returns : goal.returns
returns c stack is =
    let slots = c.self.inside.store.scopes.slots in
    c.is_reached.ensures
    ∙ ap (λ (s : Stack). is_reached (own_from s) c.args.tick)
    (sym (stack_is c.args.self.now slots c.id.inside.key c.args.id (outline_of c.index.result.now) stack c.self.view_is c.id.view_is
    (found_at slots c.id.inside.key c.index.result.now c.index.ensures) is))
