-- The exit status of the program for what it wrote.
use Rattle.std.specs.Prelude.{ℕ}
use Rattle.job_answers.specs.declared.verdict.Verdict.{Verdict}
use Rattle.job_answers.specs.declared.verdict.Verdict.TheVariants as verdict
use Rattle.job_answers.specs.declared.verdict.CheckVerdict.{CheckVerdict}
use Rattle.job_answers.specs.declared.verdict.CheckVerdict.TheVariants as checks

abbrev pub status_of : Verdict → ℕ
status_of verdict.Done = 0
status_of verdict.Raised = 1
status_of (verdict.JobRefused fault) = 2
status_of verdict.Limit = 3

abbrev pub check_status_of : CheckVerdict → ℕ
check_status_of checks.Fine = 0
check_status_of (checks.JobRefused fault) = 2
