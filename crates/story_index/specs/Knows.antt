-- What an index knows of events.
use Rattle.std.specs.Prelude.{◌≡◌, ℕ, Some, List}
use Rattle.std.specs.Option.{option_map}
use Rattle.exceptions.specs.Exceptions.{Label}
use Rattle.job_meaning.specs.Log.{Table}
use Rattle.job_story.specs.CancelledFrom.{table_in}
use Rattle.job_story.specs.Events.{Event}
use Rattle.job_story.specs.Causes.{entering_of, signed_by}
use Rattle.story_index.specs.declared.causes.Causes.{Causes}
use Rattle.story_index.specs.Found.{value_at, entering_in_code, cause_in_code}

-- For each label, an index of these events by a table has the moment from which it is cancelled or set, how it was first entered, and,
-- where it is cancelled or set, the first event in the moment before that cancelled or set it.
pub record Knows (causes : Causes) (table : Table) (es : List Event) : Type 0 where
  pub cancelled_from : (l : Label) → table_in causes.cancelled_from.now l ≡ table l
  pub entered : (l : Label) → option_map entering_in_code (value_at causes.entered l) ≡ entering_of l es
  pub signed : (l : Label) (from : ℕ) → table l ≡ Some from →
      option_map cause_in_code (value_at causes.signed l) ≡ signed_by l from es
