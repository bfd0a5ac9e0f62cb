-- What `format` writes for a job text, and whether a text is formatted.
use Rattle.std.specs.Prelude.{◌≡◌, ℕ, ◌+◌, ◌==◌, if◌then◌else◌, Option, Some, None, List, [], ◌∷◌}
use Rattle.job_tree.specs.Tree.{Tree}
use Rattle.job_reader.specs.Refusals.{Spells, IsRefused}
use Rattle.job_layout.specs.Layout.{formatted_text}
use Rattle.job_layout.specs.Faults.{IsFormatted, IsTooLong}
use Rattle.job_answers.specs.Verdict.{refusal_line}
use Rattle.commands.specs.declared.format_verdict.FormatVerdict.{FormatVerdict}
use Rattle.commands.specs.declared.format_verdict.FormatVerdict.TheVariants as verdicts
use Rattle.commands.specs.declared.format_verdict.FormatCheck.{FormatCheck}
use Rattle.commands.specs.declared.format_verdict.FormatCheck.TheVariants as checks

-- the text spells a job whose formatted text would have this number of bytes, more than a job text may have
abbrev pub HasLongFormat : List ℕ → ℕ → Type 0
HasLongFormat text bytes = (job : Tree) × Spells text job × IsTooLong text job bytes

-- A verdict and its bytes: the formatted text of the job, the line of the refusal, or none.
abbrev pub IsAnswer : List ℕ → FormatVerdict → List ℕ → Type 0
IsAnswer text verdicts.Formatted bytes = IsFormatted text bytes
IsAnswer text (verdicts.JobRefused fault) bytes = IsRefused text fault.kind fault.at × (bytes ≡ refusal_line fault)
IsAnswer text (verdicts.TooLong long) bytes = HasLongFormat text long × (bytes ≡ [])

-- ---- whether a text is formatted

-- the first place at which two texts differ, from `place` on
abbrev pub difference_from : ℕ → List ℕ → List ℕ → Option ℕ
difference_from place [] [] = None
difference_from place [] (b ∷ other) = Some place
difference_from place (a ∷ one) [] = Some place
difference_from place (a ∷ one) (b ∷ other) = if a == b then difference_from (place + 1) one other else Some place

abbrev pub difference : List ℕ → List ℕ → Option ℕ
difference one other = difference_from 0 one other

abbrev pub check_by_place : Option ℕ → FormatCheck
check_by_place None = checks.Same
check_by_place (Some place) = checks.Differs place

abbrev pub comparison : List ℕ → List ℕ → FormatCheck
comparison text bytes = check_by_place (difference text bytes)

-- for a text that spells a job: the comparison with its formatted text
abbrev pub IsComparison : List ℕ → FormatCheck → Type 0
IsComparison text check = (job : Tree) × Spells text job × (check ≡ comparison text (formatted_text text job))

-- the result of the check of a text
abbrev pub IsCheck : List ℕ → FormatCheck → Type 0
IsCheck text (checks.JobRefused fault) = IsRefused text fault.kind fault.at
IsCheck text (checks.TooLong long) = HasLongFormat text long
IsCheck text check = IsComparison text check
