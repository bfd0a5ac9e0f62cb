-- What the code knows of the order of records.
use Rattle.std.specs.Prelude.{◌≡◌, List, length}
use Rattle.std.specs.List.{position_from}
use Rattle.exceptions.specs.Exceptions.{Label}
use Rattle.job_story.specs.Events.{Event}
use Rattle.job_story.specs.Notes.{starts_task}
use Rattle.story_waits.specs.declared.records.Records.{Records}
use Rattle.story_index.specs.Found.{value_at}

-- where each task starts among these events, and how many they are
pub record KnowsStarts (records : Records) (es : List Event) : Type 0 where
  pub starts : (l : Label) → value_at records.starts l ≡ position_from (starts_task l) 0 es
  pub read : records.read ≡ length es
