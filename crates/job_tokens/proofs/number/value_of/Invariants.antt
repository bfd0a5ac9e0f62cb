use Rattle.std.proofs.Common.{◌≡◌, ◌≤◌, drop}
use Rattle.job_tree.specs.declared.limits.TheConstants.{MAX_NUMBER}
use Rattle.job_tokens.specs.Lexing.{value_after}
use Rattle.job_tokens.proofs.number.value_of.Given as goal

abbrev pub invariant-loop-digit : goal.invariant-loop-digit
invariant-loop-digit l = record {
  within : l.value ≤ MAX_NUMBER;
  so_far : value_after l.value (drop l.digit-index l.digits) ≡ value_after 0 l.digits;
}
