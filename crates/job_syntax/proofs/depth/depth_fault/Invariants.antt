use Rattle.std.proofs.Common.{◌≡◌, ◌≤◌, drop}
use Rattle.job_syntax.specs.Depth.{depth_fault}
use Rattle.job_syntax.proofs.depth.depth_fault.Given as goal

abbrev pub invariant-loop-token : goal.invariant-loop-token
invariant-loop-token l = record {
  within : l.depth ≤ 32;
  fault : depth_fault l.depth (drop l.token-index l.tokens) ≡ depth_fault 0 l.tokens;
}
