use Rattle.std.proofs.Common.{◌≡◌, drop}
use Rattle.std.specs.Prelude.{map}
use Rattle.std.specs.List.{position_from}
use Rattle.std.specs.Option.{option_or}
use Rattle.exceptions.specs.Exceptions as tree
use Rattle.job_story.specs.Notes.{starts_task}
use Rattle.story_index.specs.Found.{value_at}
use Rattle.story_index.specs.Seen.{event_in}
use Rattle.story_waits.proofs.records.Records.of.Given as goal

abbrev pub invariant-events : goal.invariant-events
invariant-events l =
    (task : tree.Label) →
    option_or (value_at l.starts task) (position_from (starts_task task) l.i (map event_in (drop l.i l.walked)))
    ≡ position_from (starts_task task) 0 (map event_in l.walked)
