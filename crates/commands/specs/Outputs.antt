-- The outputs of a job text over an input that are kept beside a feed.
use Rattle.std.specs.Prelude.{◌⊎◌, ℕ, false, Option, Some, None, List, [], ◌∷◌, codes}
use Rattle.job_reader.specs.declared.fault.JobFault.{JobFault}
use Rattle.job_answers.specs.Verdict as reports
use Rattle.job_answers.specs.declared.verdict.Verdict.{Verdict}
use Rattle.job_answers.specs.declared.story_verdict.StoryVerdict.{StoryVerdict}
use Rattle.commands.specs.Charts as charts
use Rattle.commands.specs.declared.chart_form.ChartForm.TheVariants as drawn
use Rattle.commands.specs.Faults as faults
use Rattle.commands.specs.Races as races
use Rattle.commands.specs.Sweeps as sweeps
use Rattle.commands.specs.declared.form.Form.{Form}
use Rattle.commands.specs.declared.form.Form.TheVariants.{Text}
use Rattle.commands.specs.declared.verdict.FaultsVerdict.{FaultsVerdict}
use Rattle.commands.specs.declared.verdict.RacesVerdict.{RacesVerdict}
use Rattle.commands.specs.declared.verdict.SweepVerdict.TheVariants.{Lines, JobRefused}
use Rattle.outcomes.specs.Table.{Options}
use Rattle.outcomes.specs.declared.deny.Deny.{Deny}
use Rattle.job_edits.specs.declared.number.Target.{Target}
use Rattle.trials.specs.declared.missing.Missing.{Missing}
use Rattle.trials.specs.Sweeps.{IsWithoutTarget}
use Rattle.expect_text.specs.Expectations.{no_kind}
use Rattle.commands.specs.declared.outputs.Output.{Output}
use Rattle.commands.specs.declared.outputs.Output.TheVariants.{Report, Story, Chart, Faults, Races}

-- every kind of output, in the order in which they are compared
abbrev pub all_outputs : List Output
all_outputs = Report ∷ Story ∷ Chart ∷ Faults ∷ Races ∷ []

-- the report of the job's meaning, or the refusal or the line of the limit in its place
abbrev pub IsReport : (text input : List ℕ) → (limit : ℕ) → (bytes : List ℕ) → Type 0
IsReport text input limit bytes = (verdict : Verdict) × reports.IsVerdict text input limit verdict bytes

-- the story of all tasks
abbrev pub IsStory : (text input : List ℕ) → (limit : ℕ) → (bytes : List ℕ) → Type 0
IsStory text input limit bytes = (verdict : StoryVerdict) × reports.IsStoryText text input limit None verdict bytes

-- the chart as a text of 80 columns
abbrev pub IsChart : (text input : List ℕ) → (limit : ℕ) → (bytes : List ℕ) → Type 0
IsChart text input limit bytes = (verdict : Verdict) × charts.IsVerdict (drawn.Text 80) text input limit verdict bytes

-- each step that fails raises `Fault`, all lines are printed, and these outcomes are denied
abbrev pub plain_options : Deny → Options
plain_options deny = record { names = codes "Fault" ∷ []; each = false; brief = false; deny = deny }

-- the outcome of the job with each fault, where a step that fails raises `Fault`
abbrev pub IsFaults : (text input : List ℕ) → (limit : ℕ) → (bytes : List ℕ) → Type 0
IsFaults text input limit bytes = (verdict : FaultsVerdict) × faults.IsVerdict Text text input limit (plain_options no_kind) verdict bytes

-- the places on which the outcome of the job depends by a hair
abbrev pub IsRaces : (text input : List ℕ) → (limit : ℕ) → (bytes : List ℕ) → Type 0
IsRaces text input limit bytes = (verdict : RacesVerdict) × races.IsVerdict Text text input limit false verdict bytes

-- these bytes are an output of a job text over an input
abbrev pub IsOutput : (text input : List ℕ) → (limit : ℕ) → Output → (bytes : List ℕ) → Type 0
IsOutput text input limit Report bytes = IsReport text input limit bytes
IsOutput text input limit Story bytes = IsStory text input limit bytes
IsOutput text input limit Chart bytes = IsChart text input limit bytes
IsOutput text input limit Faults bytes = IsFaults text input limit bytes
IsOutput text input limit Races bytes = IsRaces text input limit bytes

-- the extension of the file in which an output is kept
abbrev pub extension_text : Output → List ℕ
extension_text Report = codes "report"
extension_text Story = codes "story"
extension_text Chart = codes "chart"
extension_text Faults = codes "faults"
extension_text Races = codes "races"

-- the outcomes of the job for these values of one of its numbers, or the refusal of the text in their place
abbrev pub IsSweep : Form → (text input : List ℕ) → (limit : ℕ) → Target → (values bytes : List ℕ) → Type 0
IsSweep form text input limit target values bytes =
    sweeps.IsVerdict form text input limit target values Lines bytes
    ⊎ ((fault : JobFault) × sweeps.IsVerdict form text input limit target values (JobRefused fault) bytes)

-- the outcomes for these values or the refusal of the text, or `None` where the text does not have that number
abbrev pub IsSwept : Form → (text input : List ℕ) → (limit : ℕ) → Target → (values : List ℕ) → (bytes : Option (List ℕ)) → Type 0
IsSwept form text input limit target values (Some bytes) = IsSweep form text input limit target values bytes
IsSwept form text input limit target values None = (missing : Missing) × IsWithoutTarget text target missing
