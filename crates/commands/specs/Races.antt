-- What `races` writes: the places of a job on which its outcome depends by a hair, or the refusal of its text, or the limit, or
-- nothing.
use Rattle.std.specs.Prelude.{◌≡◌, ℕ, Bool, if◌then◌else◌, List, []}
use Rattle.job_reader.specs.Refusals.{IsRefused}
use Rattle.race_text.specs.Lines.{Line}
use Rattle.race_text.specs.Table.{table_text, denied_text}
use Rattle.trials.specs.Races.{AreRaceLines, IsLate, HasNoFinerTicks}
use Rattle.json_story.specs.Values.{document}
use Rattle.json_tables.specs.Races.{races_json}
use Rattle.commands.specs.Forms.{refusal_in, limit_in}
use Rattle.commands.specs.declared.form.Form.{Form}
use Rattle.commands.specs.declared.form.Form.TheVariants.{Text, Json}
use Rattle.commands.specs.declared.verdict.RacesVerdict.{RacesVerdict}
use Rattle.commands.specs.declared.verdict.RacesVerdict.TheVariants.{Lines, JobRefused, Limit, NoFinerTicks}

-- the table of the lines for this number of hairs
abbrev pub table_in : Form → ℕ → List Line → List ℕ
table_in Text hairs lines = table_text hairs lines
table_in Json hairs lines = document (races_json hairs lines)

-- these bytes are the table of these lines, and these lines of the text table are denied
pub record IsTableOf (form : Form) (deny : Bool) (hairs : ℕ) (lines : List Line) (denied bytes : List ℕ) : Type 0 where
  pub table : bytes ≡ table_in form hairs lines
  pub denied_are : denied ≡ (if deny then denied_text lines else [])

-- these bytes are the table of each hair of each place of the text, and these lines of the text table are denied
abbrev pub IsTable : Form → List ℕ → List ℕ → ℕ → Bool → List ℕ → List ℕ → Type 0
IsTable form text input limit deny denied bytes =
    (hairs : ℕ) × (lines : List Line) × AreRaceLines text input limit hairs lines × IsTableOf form deny hairs lines denied bytes

-- a verdict and its bytes
abbrev pub IsVerdict : Form → List ℕ → List ℕ → ℕ → Bool → RacesVerdict → List ℕ → Type 0
IsVerdict form text input limit deny (Lines denied) bytes = IsTable form text input limit deny denied.items bytes
IsVerdict form text input limit deny (JobRefused fault) bytes =
    IsRefused text fault.kind fault.at × (bytes ≡ refusal_in form text fault)
IsVerdict form text input limit deny Limit bytes = IsLate text input limit × (bytes ≡ limit_in form limit)
IsVerdict form text input limit deny NoFinerTicks bytes = HasNoFinerTicks text input limit × (bytes ≡ [])
