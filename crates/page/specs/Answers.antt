-- What `page` returns: a page about a job, made of what the other commands say of it, or the refusal of its text.
use Rattle.std.specs.Prelude.{◌≡◌, ◌⊎◌, ℕ, false, true, None, List, [], ◌∷◌, ◌++◌, codes, map, take}
use Rattle.job_tree.specs.Tree.{Tree}
use Rattle.job_tokens.specs.declared.token.Token.{Token}
use Rattle.job_reader.specs.Refusals.{Spells, HasTokens, IsRefused}
use Rattle.job_lint.specs.Linted.{AreWarnings}
use Rattle.job_lint.specs.Sentences.{sentence_of}
use Rattle.job_lint.specs.declared.warning.Warning.{Warning}
use Rattle.job_meaning.specs.Meaning.{meaning_table}
use Rattle.job_meaning.specs.Moments.{clock_of}
use Rattle.basics.specs.Places.{line_of}
use Rattle.job_answers.specs.Verdict as reports
use Rattle.job_answers.specs.Verdict.{refusal_line}
use Rattle.job_answers.specs.Stories.{shown_until, story_events}
use Rattle.job_answers.specs.declared.verdict.Verdict.{Verdict}
use Rattle.job_answers.specs.declared.verdict.Verdict.TheVariants.{JobRefused}
use Rattle.job_answers.specs.declared.story_verdict.StoryVerdict.{StoryVerdict}
use Rattle.chart.specs.Bars.{bars_of}
use Rattle.svg.specs.Content.{IsDocument}
use Rattle.svg.specs.declared.layout.TheConstants.{MAX_ROWS}
use Rattle.outcomes.specs.JobOutcomes.{JobOutcome, job_outcome_text}
use Rattle.outcomes.specs.Table.{Line, table_text}
use Rattle.outcomes.specs.declared.options.Untried.{Untried}
use Rattle.trials.specs.Faults.{AreFaultLines}
use Rattle.commands.specs.Charts as charts
use Rattle.commands.specs.Formats.{HasLongFormat}
use Rattle.commands.specs.Races as race_answers
use Rattle.commands.specs.declared.chart_form.ChartForm.TheVariants.{Svg}
use Rattle.commands.specs.declared.form.Form.TheVariants.{Text}
use Rattle.commands.specs.declared.verdict.RacesVerdict.{RacesVerdict}
use Rattle.job_layout.specs.Faults.{IsFormatted}
use Rattle.page.specs.Links.{Row, places_in, rows_from}
use Rattle.page.specs.Lines.{Warned}
use Rattle.page.specs.Pages.{Shown, page_element, page_text}
use Rattle.page.specs.declared.places.Place.{Place}
use Rattle.page.specs.declared.views.TheConstants.{WIDTH}

-- ---- the text of the job

-- the text that a page shows: formatted, or as it is where the formatted text would be too long
abbrev pub IsShownText : (text shown : List ℕ) → Type 0
IsShownText text shown = IsFormatted text shown ⊎ ((bytes : ℕ) × HasLongFormat text bytes × (shown ≡ text))

-- the names that a text gives, with their lines
pub record ArePlaces (text : List ℕ) (places : List Place) : Type 0 where
  pub tokens : List Token
  pub tokens_are : HasTokens text tokens None
  pub places_are : places ≡ places_in text tokens

-- a warning, with the line that it is about
abbrev pub warned_of : List ℕ → Warning → Warned
warned_of text w = record { line = line_of text w.at; sentence = sentence_of w }

-- the warnings about a text
pub record AreWarned (text : List ℕ) (warned : List Warned) : Type 0 where
  pub warnings : List Warning
  pub warnings_are : AreWarnings text warnings
  pub warned_are : warned ≡ map (warned_of text) warnings

-- ---- one run

-- the rows of the tasks in the chart of a job
abbrev pub job_rows : ℕ → Tree → List ℕ → List Row
job_rows limit job input =
    rows_from 0
    (take MAX_ROWS
    (bars_of (clock_of job.format) (meaning_table job input) (shown_until limit job input)
    (story_events limit job input)))

-- what `run`, `explain` and `chart` write for a text
pub record AreViews (text input : List ℕ) (limit : ℕ) (verdict : Verdict) (report story chart : List ℕ) : Type 0 where
  pub report_is : reports.IsVerdict text input limit verdict report
  pub ending : StoryVerdict
  pub story_is : reports.IsStoryText text input limit None ending story
  pub drawn : Verdict
  pub chart_is : charts.IsVerdict (Svg WIDTH) text input limit drawn chart

-- ---- many runs

-- how the job of this name ends, and the tables that `faults` and `races` write for its text
pub record AreTables (text input : List ℕ) (limit : ℕ) (name : List ℕ) (outcome changing faults races : List ℕ) : Type 0 where
  pub first : JobOutcome
  pub lines : List Line
  pub untried : Untried
  pub lines_are : AreFaultLines text input limit (codes "Fault" ∷ []) false first lines untried
  pub outcome_is : outcome ≡ name ++ codes ": " ++ job_outcome_text limit true first
  pub changing_is : changing ≡ table_text limit true first lines untried
  pub faults_are : faults ≡ table_text limit false first lines untried
  pub raced : RacesVerdict
  pub races_are : race_answers.IsVerdict Text text input limit false raced races

-- ---- the page

-- what a page shows of a job, whose text is spelled by the text that it shows
pub record Shows (input : List ℕ) (limit : ℕ) (job : Tree) (verdict : Verdict) (shown : Shown) : Type 0 where
  pub spells : Spells shown.job job
  pub name_is : shown.name ≡ job.name
  pub places : ArePlaces shown.job shown.places
  pub warned : AreWarned shown.job shown.warned
  pub views : AreViews shown.job input limit verdict shown.report shown.story shown.chart
  pub rows : shown.rows ≡ job_rows limit job input
  pub tables : AreTables shown.job input limit job.name shown.outcome shown.changing shown.faults shown.races

-- the page, whose one element is well formed
pub record IsPage (text input : List ℕ) (limit : ℕ) (made : List ℕ) (verdict : Verdict) (bytes : List ℕ) : Type 0 where
  pub job : Tree
  pub shown : Shown
  pub formatted : IsShownText text shown.job
  pub shows : Shows input limit job verdict shown
  pub made_is : shown.made ≡ made
  pub page_is : bytes ≡ page_text shown
  pub well : IsDocument (page_element shown)

-- A verdict and its bytes: the page, or the refusal of the text.
abbrev pub IsVerdict : List ℕ → List ℕ → ℕ → List ℕ → Verdict → List ℕ → Type 0
IsVerdict text input limit made (JobRefused fault) bytes = IsRefused text fault.kind fault.at × (bytes ≡ refusal_line fault)
IsVerdict text input limit made verdict bytes = IsPage text input limit made verdict bytes
