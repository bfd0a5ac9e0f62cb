use Rattle.std.proofs.Common.{arith}
use Rattle.cancel_scopes.proofs.MarkLemmas.{unlisted_fits}
use Rattle.cancel_scopes.proofs.store.Store.index_in_list.Goals as goal

pub push_reserved-requires : goal.push_reserved-requires
push_reserved-requires c =
    let changed = c.args.self.now.changed in
    omega (
      arith,
      changed.ok.0,
      c.requires.room,
      unlisted_fits c.args.self.now.scopes.slots changed.items c.args.key c.index.result.now
          c.index.ensures c.in_default.is c.requires.listed,
    )
