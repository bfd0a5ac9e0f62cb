use Rattle.cancel_scopes.proofs.ChildLemmas.{has_index}
use Rattle.cancel_scopes.proofs.store.Store.make_room.Goals as goal

pub returns-clause-index : goal.returns-clause-index
returns-clause-index c =
    has_index c.reserve.new.self.slots c.in-Some.parent c.index_mut-scope.result.now _ c.args.parent c.index_mut-scope.ensures.value
    c.in_ok-reserve-4.ensures.ok c.in-Some.is
