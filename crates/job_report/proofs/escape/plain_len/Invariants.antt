use Rattle.std.proofs.Common.{◌≡◌, ℕ, ◌<◌, get_or}
use Rattle.std.specs.Prelude.{true}
use Rattle.job_report.specs.Text.{stands_for_itself}
use Rattle.job_report.proofs.escape.plain_len.Given as goal

abbrev pub invariant-loop-i : goal.invariant-loop-i
invariant-loop-i l = (k : ℕ) → k < l.i → stands_for_itself (get_or l.text k 0) ≡ true
