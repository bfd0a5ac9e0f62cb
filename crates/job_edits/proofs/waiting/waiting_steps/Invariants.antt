use Rattle.std.proofs.Common.{◌≡◌, ◌++◌, length}
use Rattle.job_edits.specs.Waiting.{waiting_from, waiting_in}
use Rattle.job_edits.proofs.waiting.waiting_steps.Given as goal

abbrev pub invariant-tokens : goal.invariant-tokens
invariant-tokens l = l.steps.items ++ waiting_from l.begins l.rest ≡ waiting_in l.tokens

abbrev pub decreases-tokens : goal.decreases-tokens
decreases-tokens l = length l.rest
