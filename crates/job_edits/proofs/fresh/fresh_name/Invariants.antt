use Rattle.std.proofs.Common.{◌≡◌, ◌+◌, length}
use Rattle.job_edits.specs.Fresh.{fresh_word, fresh_from}
use Rattle.job_edits.proofs.fresh.fresh_name.Given as goal

abbrev pub invariant-tries : goal.invariant-tries
invariant-tries l = (fresh_from l.tries l.n l.word l.tokens ≡ fresh_word l.word l.tokens) × (l.n + l.tries ≡ length l.tokens + 1)

abbrev pub decreases-tries : goal.decreases-tries
decreases-tries l = l.tries
