-- From a run to its summary.
use Rattle.std.proofs.Common.{◌≡◌, ℕ, Option, List, map, ap, ◌∙◌}
use Rattle.std.specs.Option.{option_map}
use Rattle.job_tree.specs.Tree.{Tree}
use Rattle.exceptions.specs.Exceptions as tree
use Rattle.exceptions.specs.Held.{exc_of}
use Rattle.job_meaning.specs.Log.{Table}
use Rattle.job_meaning.specs.Sharing.{Grants}
use Rattle.job_meaning.specs.Moments.{clock_of}
use Rattle.job_meaning.specs.Meaning.{root_label, meaning, meaning_table, meaning_grants}
use Rattle.job_meaning.specs.Shown.{Row, ending_of, meaning_rows}
use Rattle.job_runner.specs.Runs.{root_end}
use Rattle.job_story.specs.Held.{event_of}
use Rattle.job_story.specs.Tell.{story_by}
use Rattle.job_story.specs.Events.{events_of}
use Rattle.job_answers.proofs.Stories.{told_by}
use Rattle.outcomes.specs.JobOutcomes.{cancelled_in}
use Rattle.trials.specs.declared.summary.Summary.{Summary}
use Rattle.trials.specs.Held.{IsSummary, root_ending}

-- what is kept of the run of a meaning is what the meaning says
pub is_summary : (job : Tree) (input : List ℕ) (rows : List Row) (table : Table) (grants : Grants) (s : Summary) → rows ≡ meaning_rows job input →
    s.clock ≡ clock_of job.format → s.end ≡ root_end rows → ((o : Option tree.Exc) → root_ending rows ≡ ending_of o → option_map exc_of s.exc ≡ o) →
    s.cancelled.items ≡ cancelled_in rows → table ≡ meaning_table job input → grants ≡ meaning_grants job input →
    map event_of s.events.items ≡ events_of (root_label job.name) (story_by (record { cancelled_from = table; granted = grants }) job input) →
    IsSummary job input s
is_summary job input rows table grants s same clock end exc cancelled is granted events =
    record {
      clock = clock;
      end = end ∙ ap root_end same;
      exc = exc (meaning job input).exc (ap root_ending same);
      cancelled = cancelled ∙ ap cancelled_in same;
      events = events ∙ ap (events_of (root_label job.name)) (told_by job input table grants is granted);
    }
