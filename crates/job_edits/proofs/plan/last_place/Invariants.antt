use Rattle.std.proofs.Common.{◌≡◌, drop}
use Rattle.job_edits.specs.Faults.{last_place}
use Rattle.job_edits.proofs.plan.last_place.Given as goal

abbrev pub invariant-tokens : goal.invariant-tokens
invariant-tokens l = last_place l.at (drop l.token-index l.tokens) ≡ last_place 0 l.tokens
