-- Which tasks run at a limit.
use Rattle.std.specs.Prelude.{◌≡◌, ◌⊎◌, ℕ, ◌≤◌, ◌<◌, List, []}
use Rattle.job_tree.specs.Tree.{Tree}
use Rattle.job_reader.specs.declared.fault.JobFault.{JobFault}
use Rattle.job_reader.specs.Refusals.{Spells, IsRefused}
use Rattle.job_meaning.specs.Log.{Table}
use Rattle.job_meaning.specs.Moments.{clock_of}
use Rattle.job_meaning.specs.declared.clock.Clock.{Clock}
use Rattle.job_meaning.specs.Meaning.{meaning_end, meaning_table}
use Rattle.job_meaning.specs.Tables.{meaning_tables}
use Rattle.job_story.specs.Events.{Event, in_order}
use Rattle.job_story.specs.Limit.{standing_text, walked_to}

-- the lines that end the text of these events up to a limit, by a table
abbrev pub running_lines : Clock → Table → List Event → List ℕ
running_lines clock table walked = standing_text clock table (in_order walked) (in_order walked) walked

-- the lines of a job that ends later than the limit, with what its tasks are doing that have not ended by then
pub record IsJobRunning (job : Tree) (input : List ℕ) (limit : ℕ) (lines : List ℕ) : Type 0 where
  pub late : limit < meaning_end job input →
      lines ≡ running_lines (clock_of job.format) (meaning_table job input) (walked_to (meaning_tables job input) limit job input)
  pub in_time : meaning_end job input ≤ limit → lines ≡ []

-- these lines for the job that a text spells, and no lines where the text is refused
abbrev pub AreRunning : List ℕ → List ℕ → ℕ → List ℕ → Type 0
AreRunning text input limit lines =
    ((job : Tree) × Spells text job × IsJobRunning job input limit lines)
    ⊎ ((fault : JobFault) × IsRefused text fault.kind fault.at × (lines ≡ []))
