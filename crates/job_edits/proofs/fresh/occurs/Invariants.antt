use Rattle.std.proofs.Common.{◌≡◌, drop}
use Rattle.job_edits.specs.Fresh.{occurs}
use Rattle.job_edits.proofs.fresh.occurs.Given as goal

abbrev pub invariant-tokens : goal.invariant-tokens
invariant-tokens l = occurs l.word (drop l.token-index l.tokens) ≡ occurs l.word l.tokens
