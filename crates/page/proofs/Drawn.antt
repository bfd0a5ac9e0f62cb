-- From a story to the rows of its chart.
use Rattle.std.proofs.Common.{◌≡◌, ℕ, List, ap, ◌∙◌, take, nat_le}
use Rattle.std.specs.Prelude.{IfOk, Option, Result}
use Rattle.std.proofs.lemmas.Result.{IfOk-weaker}
use Rattle.job_tree.specs.Tree.{Tree}
use Rattle.job_meaning.specs.Log.{Table}
use Rattle.job_meaning.specs.Meaning.{meaning_end, meaning_table}
use Rattle.job_meaning.specs.Moments.{clock_of}
use Rattle.job_meaning.specs.declared.clock.Clock.{Clock}
use Rattle.job_story.specs.Events.{Event}
use Rattle.job_answers.specs.Stories.{until_if, story_events}
use Rattle.chart.specs.Bars.{Bar, bars_of}
use Rattle.svg.specs.declared.layout.TheConstants.{MAX_ROWS}
use Rattle.page.specs.Links.{Row, rows_from}
use Rattle.page.specs.Answers.{job_rows}

-- The bars of a story are those of the job.
bars_same : (limit : ℕ) (job : Tree) (input : List ℕ) (clock : Clock) (table : Table) (until : Option ℕ) (walked : List Event) →
    clock ≡ clock_of job.format → table ≡ meaning_table job input → until ≡ until_if (nat_le (meaning_end job input) limit) limit →
    walked ≡ story_events limit job input →
    bars_of clock table until walked
    ≡ bars_of (clock_of job.format) (meaning_table job input) (until_if (nat_le (meaning_end job input) limit) limit) (story_events limit job input)
bars_same limit job input clock table until walked counts same ends walks =
    ap (λ k. bars_of k table until walked) counts
    ∙ (ap (λ t. bars_of (clock_of job.format) t until walked) same
    ∙ (ap (λ u. bars_of (clock_of job.format) (meaning_table job input) u walked) ends
    ∙ ap (bars_of (clock_of job.format) (meaning_table job input) (until_if (nat_le (meaning_end job input) limit) limit)) walks))

-- The rows of these bars are those of the chart of the job.
pub rows_drawn : {T E : Type 0} (result : Result T E) (view : T → List Row) (limit : ℕ) (job : Tree) (input : List ℕ) (clock : Clock)
    (table : Table) (until : Option ℕ) (walked : List Event) (bars : List Bar) →
    clock ≡ clock_of job.format → table ≡ meaning_table job input → until ≡ until_if (nat_le (meaning_end job input) limit) limit →
    walked ≡ story_events limit job input → bars ≡ bars_of clock table until walked →
    IfOk result (λ rows. view rows ≡ rows_from 0 (take MAX_ROWS bars)) → IfOk result (λ rows. view rows ≡ job_rows limit job input)
rows_drawn result view limit job input clock table until walked bars counts same ends walks drawn found =
    IfOk-weaker result (λ rows. view rows ≡ rows_from 0 (take MAX_ROWS bars)) (λ rows. view rows ≡ job_rows limit job input)
    (λ rows is.
    is ∙ ap (λ z. rows_from 0 (take MAX_ROWS z)) (drawn ∙ bars_same limit job input clock table until walked counts same ends walks))
    found
