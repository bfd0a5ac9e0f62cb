use Rattle.std.proofs.Common.{◌≡◌, drop}
use Rattle.job_edits.specs.Waiting.{first_mark}
use Rattle.job_edits.proofs.waiting.first_mark.Given as goal

abbrev pub invariant-tokens : goal.invariant-tokens
invariant-tokens l = first_mark l.mark (drop l.token-index l.tokens) ≡ first_mark l.mark l.tokens
