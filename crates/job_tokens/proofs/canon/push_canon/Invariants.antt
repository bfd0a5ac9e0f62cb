use Rattle.std.proofs.Common.{◌≡◌, ◌++◌, drop}
use Rattle.job_tokens.specs.Canon.{canon_after, canon_of}
use Rattle.job_tokens.proofs.canon.push_canon.Given as goal

abbrev pub invariant-loop-shape : goal.invariant-loop-shape
invariant-loop-shape l = l.out.items ++ canon_after l.before (drop l.shape-index l.shapes) ≡ l.fn.out.items ++ canon_of l.shapes
