use Rattle.std.proofs.Common.{◌≡◌, ◌≤◌, drop}
use Rattle.job_edits.specs.Repeated.{closing_from}
use Rattle.job_edits.proofs.repeated.closing_of.Given as goal

abbrev pub invariant-tokens : goal.invariant-tokens
invariant-tokens l = record {
  bounded : l.depth ≤ l.token-index;
  same : closing_from l.depth (drop l.token-index l.tokens) ≡ closing_from 0 l.tokens;
}
