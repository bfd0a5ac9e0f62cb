-- What `chart` writes: the chart of a job's meaning over an input, or the refusal that the meaning names.
use Rattle.std.specs.Prelude.{◌≡◌, ℕ, List}
use Rattle.job_tree.specs.Tree.{Tree}
use Rattle.cancel_scopes.specs.Sight.{Tick}
use Rattle.job_reader.specs.Refusals.{Spells, IsRefused}
use Rattle.job_meaning.specs.Log.{Table}
use Rattle.job_meaning.specs.Moments.{clock_of}
use Rattle.job_meaning.specs.declared.clock.Clock.{Clock}
use Rattle.job_meaning.specs.Meaning.{meaning_table}
use Rattle.job_story.specs.Events.{Event}
use Rattle.job_answers.specs.Verdict.{refusal_line}
use Rattle.job_answers.specs.declared.verdict.Verdict.{Verdict}
use Rattle.job_answers.specs.declared.verdict.Verdict.TheVariants.{Done, Raised, JobRefused, Limit}
use Rattle.job_answers.specs.Stories.{story_events, shown_until}
use Rattle.job_answers.specs.Endings.{IsEnding}
use Rattle.job_answers.specs.declared.meaning.Ending.{Ending}
use Rattle.job_answers.specs.declared.meaning.Ending.TheVariants as ending
use Rattle.chart.specs.Bars.{bars_of}
use Rattle.chart.specs.Text.{chart_text}
use Rattle.svg.specs.Content.{IsDocument}
use Rattle.svg.specs.Drawing.{chart_svg}
use Rattle.commands.specs.declared.chart_form.ChartForm.{ChartForm}
use Rattle.commands.specs.declared.chart_form.ChartForm.TheVariants.{Text, Svg}

-- a chart of these events by a table, of a story that is whole or cut off at a limit
abbrev pub chart_of : Clock → ChartForm → Table → Tick → List Event → List ℕ
chart_of clock (Text width) table until walked = chart_text clock width until walked (bars_of clock table until walked)
chart_of clock (Svg width) table until walked = chart_svg clock width table until walked (bars_of clock table until walked)

-- the chart of a meaning: whole where it ends by the limit, and up to the limit otherwise
abbrev pub meaning_chart : ChartForm → ℕ → Tree → List ℕ → List ℕ
meaning_chart form limit job input =
    chart_of (clock_of job.format) form (meaning_table job input) (shown_until limit job input)
    (story_events limit job input)

-- an SVG document is well formed
abbrev pub IsInForm : ChartForm → List ℕ → Type 0
IsInForm (Text width) bytes = Unit {0}
IsInForm (Svg width) bytes = IsDocument bytes

abbrev pub IsChart : ChartForm → ℕ → Tree → List ℕ → List ℕ → Type 0
IsChart form limit job input bytes = (bytes ≡ meaning_chart form limit job input) × IsInForm form bytes

-- ---- how a job ends, compared with a limit

-- how the meaning of a job ends
abbrev pub IsVerdictOn : Tree → List ℕ → ℕ → Verdict → Type 0
IsVerdictOn job input limit Done = IsEnding job input limit ending.Done
IsVerdictOn job input limit Raised = IsEnding job input limit ending.Raised
IsVerdictOn job input limit (JobRefused fault) = ⊥
IsVerdictOn job input limit Limit = IsEnding job input limit ending.Late

-- the verdict on a job that ends so
abbrev pub verdict_of : Ending → Verdict
verdict_of ending.Done = Done
verdict_of ending.Raised = Raised
verdict_of ending.Late = Limit

-- ---- verdicts

-- The verdict on a job that was read, and its bytes.
abbrev pub IsJobVerdict : ChartForm → Tree → List ℕ → ℕ → Verdict → List ℕ → Type 0
IsJobVerdict form job input limit verdict bytes = IsVerdictOn job input limit verdict × IsChart form limit job input bytes

-- A verdict and its bytes: that on the job that the text spells, or the refusal that the meaning names.
abbrev pub IsVerdict : ChartForm → List ℕ → List ℕ → ℕ → Verdict → List ℕ → Type 0
IsVerdict form text input limit (JobRefused fault) bytes = IsRefused text fault.kind fault.at × (bytes ≡ refusal_line fault)
IsVerdict form text input limit verdict bytes = (job : Tree) × Spells text job × IsJobVerdict form job input limit verdict bytes
