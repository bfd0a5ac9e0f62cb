-- What `faults` writes: the outcome of a job with each fault, or the refusal of its text.
use Rattle.std.specs.Prelude.{◌≡◌, ℕ, Bool, List}
use Rattle.job_reader.specs.Refusals.{IsRefused}
use Rattle.outcomes.specs.JobOutcomes.{JobOutcome}
use Rattle.outcomes.specs.Table.{Line, Options, table_text, denied_text}
use Rattle.outcomes.specs.declared.options.Untried.{Untried}
use Rattle.trials.specs.Faults.{AreFaultLines}
use Rattle.json_story.specs.Values.{document}
use Rattle.json_tables.specs.Faults.{faults_json}
use Rattle.commands.specs.Forms.{refusal_in}
use Rattle.commands.specs.declared.form.Form.{Form}
use Rattle.commands.specs.declared.form.Form.TheVariants.{Text, Json}
use Rattle.commands.specs.declared.verdict.FaultsVerdict.{FaultsVerdict}
use Rattle.commands.specs.declared.verdict.FaultsVerdict.TheVariants.{Lines, JobRefused}

-- the table of the outcome of a job without a fault, and with each fault
abbrev pub table_in : Form → ℕ → (brief : Bool) → JobOutcome → List Line → Untried → List ℕ
table_in Text limit brief first lines untried = table_text limit brief first lines untried
table_in Json limit brief first lines untried = document (faults_json limit brief first lines untried)

-- these bytes are the table of these outcomes, and these lines of the text table are denied
pub record IsTableOf (form : Form) (limit : ℕ) (o : Options) (first : JobOutcome) (lines : List Line) (untried : Untried) (denied bytes : List ℕ) : Type 0 where
  pub table : bytes ≡ table_in form limit o.brief first lines untried
  pub denied_are : denied ≡ denied_text limit o.deny first lines

-- these bytes are the table of the job that the text spells, and these lines of the text table are denied
pub record IsTable (form : Form) (text input : List ℕ) (limit : ℕ) (o : Options) (denied bytes : List ℕ) : Type 0 where
  pub first : JobOutcome
  pub lines : List Line
  pub untried : Untried
  pub lines_are : AreFaultLines text input limit o.names o.each first lines untried
  pub table_is : IsTableOf form limit o first lines untried denied bytes

-- a verdict and its bytes
abbrev pub IsVerdict : Form → List ℕ → List ℕ → ℕ → Options → FaultsVerdict → List ℕ → Type 0
IsVerdict form text input limit o (Lines denied) bytes = IsTable form text input limit o denied.items bytes
IsVerdict form text input limit o (JobRefused fault) bytes =
    IsRefused text fault.kind fault.at × (bytes ≡ refusal_in form text fault)
