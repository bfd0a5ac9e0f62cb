-- The exit status of the program for a text that was to be formatted, or checked.
use Rattle.std.specs.Prelude.{ℕ}
use Rattle.commands.specs.declared.format_verdict.FormatVerdict.{FormatVerdict}
use Rattle.commands.specs.declared.format_verdict.FormatVerdict.TheVariants as verdicts
use Rattle.commands.specs.declared.format_verdict.FormatCheck.{FormatCheck}
use Rattle.commands.specs.declared.format_verdict.FormatCheck.TheVariants as checks

abbrev pub status_of : FormatVerdict → ℕ
status_of verdicts.Formatted = 0
status_of (verdicts.JobRefused fault) = 2
status_of (verdicts.TooLong bytes) = 2

abbrev pub check_status_of : FormatCheck → ℕ
check_status_of checks.Same = 0
check_status_of (checks.Differs place) = 1
check_status_of (checks.JobRefused fault) = 2
check_status_of (checks.TooLong bytes) = 2
