-- The exit status of the program.
use Rattle.std.specs.Prelude.{◌≡◌, ◌⊎◌, ℕ, Bool, true, false, List, [], ◌∷◌}
use Rattle.job_answers.specs.declared.verdict.ServeFault.{ServeFault}
use Rattle.job_answers.specs.declared.verdict.ServeFault.TheVariants as faults
use Rattle.job_tree.specs.Tree.{Tree}
use Rattle.commands.specs.declared.format_verdict.FormatCheck.{FormatCheck}
use Rattle.commands.specs.Formats as formats
use Rattle.commands.specs.Scaled.{IsScaled, IsScaleFault}
use Rattle.commands.specs.declared.scaling.ScaleFault.{ScaleFault}
use Rattle.commands.specs.FormatStatuses.{status_of as format_status_of, check_status_of as format_check_status_of}
use Rattle.job_reader.specs.declared.fault.JobFault.{JobFault}
use Rattle.job_reader.specs.Refusals.{IsRefused, Spells}
use Rattle.job_tree.specs.declared.format.Format.{Format}
use Rattle.job_tree.specs.Formats.{in_format}
use Rattle.job_lint.specs.declared.warning.Warning.{Warning}
use Rattle.job_lint.specs.Linted.{AreWarnings}
use Rattle.commands.specs.declared.form.Form.{Form}
use Rattle.commands.specs.declared.form.Form.TheVariants as forms
use Rattle.feed_tests.specs.declared.stop.TestStop.{TestStop}
use Rattle.feed_tests.specs.declared.stop.TestStop.TheVariants as tests
use Rattle.nursery.specs.declared.stop.Stop.{Stop}
use Rattle.nursery.specs.declared.stop.Stop.TheVariants.{Words, NoText, JobFile, InputFile, TooLong, JobFileKept, Write, NoMemory}

-- if there is no verdict
abbrev pub status_of : Stop → ℕ
status_of (Words text) = 2
status_of NoText = 2
status_of (JobFile reason) = 4
status_of (InputFile reason) = 4
status_of TooLong = 4
status_of (JobFileKept reason) = 4
status_of Write = 4
status_of NoMemory = 5

-- why there is no verdict if not all bytes were sent
abbrev pub stop_of : ServeFault → Stop
stop_of (faults.Send sent) = Write
stop_of faults.NoMemory = NoMemory

-- why there is no verdict if tests stopped
abbrev pub test_stop_of : TestStop → Stop
test_stop_of tests.Write = Write
test_stop_of tests.NoMemory = NoMemory

-- the status is that of a verdict, which has some bytes
abbrev pub Tells : {V : Type 0} → (V → ℕ) → (V → List ℕ → Type 0) → ℕ → Type 0
Tells {V} status_of HasBytes status = (verdict : V) × (bytes : List ℕ) × HasBytes verdict bytes × (status ≡ status_of verdict)

-- the status is that of a verdict on a job text and an input that were read
abbrev pub TellsRead : {V : Type 0} → (V → ℕ) → ((text input : List ℕ) → V → List ℕ → Type 0) → ℕ → Type 0
TellsRead status_of HasBytes status = (text : List ℕ) × (input : List ℕ) × Tells status_of (HasBytes text input) status

-- a table is a JSON document if that is asked for, and otherwise a text
abbrev pub table_form : Bool → Form
table_form true = forms.Json
table_form false = forms.Text

-- a text that spells the same job in a format, or in its own where that is newer
abbrev pub IsUpgrade : Format → List ℕ → List ℕ → Type 0
IsUpgrade format text upgraded = (job : Tree) × Spells text job × Spells upgraded (in_format format job)

-- the status is that of the verdict on the formatted text of such a text, or that of the text's refusal
abbrev pub TellsUpgrade : Format → List ℕ → ℕ → Type 0
TellsUpgrade format text status =
    ((upgraded : List ℕ) × IsUpgrade format text upgraded × Tells format_status_of (formats.IsAnswer upgraded) status)
    ⊎ ((fault : JobFault) × IsRefused text fault.kind fault.at × (status ≡ 2))

-- 0 if the text with its ticks multiplied is a job text, and otherwise 2
abbrev pub TellsScale : List ℕ → ℕ → ℕ → Type 0
TellsScale text factor status =
    ((scaled : List ℕ) × IsScaled text factor scaled × (status ≡ 0))
    ⊎ ((fault : ScaleFault) × IsScaleFault text factor fault × (status ≡ 2))

-- the status is that of the comparison of a text with its formatted text
abbrev pub TellsFormatCheck : List ℕ → ℕ → Type 0
TellsFormatCheck text status = (check : FormatCheck) × formats.IsCheck text check × (status ≡ format_check_status_of check)

-- 0 if there is no warning, and otherwise 1
abbrev pub lint_status : List Warning → ℕ
lint_status [] = 0
lint_status (w ∷ ws) = 1

-- the status is that of the warnings of the job that the text spells, or of its refusal
abbrev pub TellsLints : List ℕ → ℕ → Type 0
TellsLints text status =
    ((warnings : List Warning) × AreWarnings text warnings × (status ≡ lint_status warnings))
    ⊎ ((fault : JobFault) × IsRefused text fault.kind fault.at × (status ≡ 2))
