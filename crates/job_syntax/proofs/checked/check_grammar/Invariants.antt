use Rattle.std.proofs.Common.{◌≡◌, ◌++◌, drop, reverse}
use Rattle.job_syntax.specs.Syntax.{fault_at, roles_at, whole_job}
use Rattle.job_syntax.proofs.checked.check_grammar.Given as goal

abbrev pub invariant-loop-token : goal.invariant-loop-token
invariant-loop-token l = record {
  fault : fault_at l.format l.end (reverse l.stack.items) (drop l.token-index l.tokens) ≡ fault_at l.format l.end whole_job l.tokens;
  roles : l.roles.items ++ roles_at l.format (reverse l.stack.items) (drop l.token-index l.tokens) ≡ roles_at l.format whole_job l.tokens;
}
