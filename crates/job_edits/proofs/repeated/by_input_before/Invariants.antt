use Rattle.std.proofs.Common.{◌≡◌, true, length}
use Rattle.job_edits.specs.Repeated.{by_input_before}
use Rattle.job_edits.proofs.repeated.by_input_before.Given as goal

abbrev pub invariant-tokens : goal.invariant-tokens
invariant-tokens l = by_input_before l.closing l.begins l.rest ≡ by_input_before l.closing true l.tokens

abbrev pub decreases-tokens : goal.decreases-tokens
decreases-tokens l = length l.rest
