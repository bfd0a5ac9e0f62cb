use Rattle.std.proofs.Common.{arith}
use Rattle.cancel_scopes.specs.Kept.{outline_of}
use Rattle.cancel_scopes.proofs.DepthLemmas.{depth_fits}
use Rattle.cancel_scopes.proofs.StackLemmas.{found_at}
use Rattle.cancel_scopes.proofs.tree.depth_under.Goals as goal

pub prove-unreachable-requires : goal.prove-unreachable-requires
prove-unreachable-requires c =
    omega (arith, depth_fits c.args.scopes.now.slots c.args.parent c.index.result.now c.requires.tree c.index.ensures)

pub returns : goal.returns
returns c =
    (outline_of c.index.result.now, found_at c.args.scopes.now.slots c.args.parent c.index.result.now c.index.ensures, omega arith)
