use Rattle.std.proofs.Common.{◌∙◌, sym, ap}
use Rattle.cancel_scopes.specs.Kept.{own_sight, sight_of}
use Rattle.cancel_scopes.proofs.StackLemmas.{kept_where_open, stack_seen}
use Rattle.cancel_scopes.proofs.tree.ScopeTree.seen_from.Goals as goal

pub index-requires : goal.index-requires
index-requires c =
    kept_where_open c.args.self.now c.self.inside.store.scopes.slots c.id.inside.key c.args.id c.self.view_is c.id.view_is c.requires

pub returns : goal.returns
returns c stack is =
    let slots = c.self.inside.store.scopes.slots in
    sym (ap own_sight c.index.ensures)
    ∙ c.self.invariant.sights c.id.inside.key
    ∙ ap sight_of (sym (stack_seen c.args.self.now slots c.id.inside.key c.args.id c.self.view_is c.id.view_is) ∙ is)
