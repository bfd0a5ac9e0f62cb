-- What `sweep` writes: the outcome of a job for each value of a number, or the refusal of its text, or nothing if it has no such
-- number.
use Rattle.std.specs.Prelude.{◌≡◌, ℕ, List, []}
use Rattle.job_reader.specs.Refusals.{IsRefused}
use Rattle.job_edits.specs.declared.number.Target.{Target}
use Rattle.outcomes.specs.JobOutcomes.{JobOutcome}
use Rattle.outcomes.specs.Groups.{Value}
use Rattle.outcomes.specs.Sweeps.{sweep_text}
use Rattle.trials.specs.Sweeps.{AreSweepValues, IsWithoutTarget}
use Rattle.json_story.specs.Values.{document}
use Rattle.json_tables.specs.Sweeps.{sweep_json}
use Rattle.commands.specs.Forms.{refusal_in}
use Rattle.commands.specs.declared.form.Form.{Form}
use Rattle.commands.specs.declared.form.Form.TheVariants.{Text, Json}
use Rattle.commands.specs.declared.verdict.SweepVerdict.{SweepVerdict}
use Rattle.commands.specs.declared.verdict.SweepVerdict.TheVariants.{Lines, JobRefused, NoTarget}

-- the outcome of a job with its own value, and for each value
abbrev pub table_in : Form → ℕ → JobOutcome → List Value → List ℕ
table_in Text limit first vs = sweep_text limit first vs
table_in Json limit first vs = document (sweep_json limit first vs)

-- these bytes are the outcomes of the job with its own value, and with each value of the number that is meant
pub record IsSweep (form : Form) (text input : List ℕ) (limit : ℕ) (target : Target) (values bytes : List ℕ) : Type 0 where
  pub first : JobOutcome
  pub vs : List Value
  pub vs_are : AreSweepValues text input limit target values first vs
  pub table_is : bytes ≡ table_in form limit first vs

-- a verdict and its bytes
abbrev pub IsVerdict : Form → List ℕ → List ℕ → ℕ → Target → List ℕ → SweepVerdict → List ℕ → Type 0
IsVerdict form text input limit target values Lines bytes = IsSweep form text input limit target values bytes
IsVerdict form text input limit target values (JobRefused fault) bytes =
    IsRefused text fault.kind fault.at × (bytes ≡ refusal_in form text fault)
IsVerdict form text input limit target values (NoTarget missing) bytes = IsWithoutTarget text target missing × (bytes ≡ [])
