use Rattle.std.proofs.Common.{subst}
use Rattle.cancel_scopes.specs.Tree.{IsOwn, IsChain}
use Rattle.cancel_scopes.proofs.ChainLemmas.{is_own, is_chain, is_apart}
use Rattle.cancel_scopes.proofs.tree.stacks_are_chains.Goals as goal

pub returns-clause-own : goal.returns-clause-own
returns-clause-own c = subst IsOwn c.tree.view_is (is_own c.tree.inside.store.scopes.slots)

pub returns-clause-chain : goal.returns-clause-chain
returns-clause-chain c = subst IsChain c.tree.view_is (is_chain c.tree.inside.store.scopes.slots c.tree.invariant.tree)

pub returns-clause-apart : goal.returns-clause-apart
returns-clause-apart c = is_apart c.args.tree.now (subst IsChain c.tree.view_is
    (is_chain c.tree.inside.store.scopes.slots c.tree.invariant.tree))
