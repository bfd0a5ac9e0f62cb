use Rattle.std.proofs.Common.{◌≡◌, drop}
use Rattle.job_syntax.specs.Ranges.{fault_after, number_fault}
use Rattle.job_syntax.proofs.range.number_fault.Given as goal

abbrev pub invariant-loop-token : goal.invariant-loop-token
invariant-loop-token l = fault_after l.format l.named l.before (drop l.token-index l.tokens) ≡ number_fault l.format l.tokens
