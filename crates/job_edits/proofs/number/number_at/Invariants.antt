use Rattle.std.proofs.Common.{◌≡◌, drop}
use Rattle.job_edits.specs.Numbers.{number_at}
use Rattle.job_edits.proofs.number.number_at.Given as goal

abbrev pub invariant-tokens : goal.invariant-tokens
invariant-tokens l = number_at l.place (drop l.token-index l.tokens) ≡ number_at l.place l.tokens
