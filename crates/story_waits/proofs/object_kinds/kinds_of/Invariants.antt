use Rattle.std.proofs.Common.{◌≡◌, drop}
use Rattle.std.specs.Prelude.{map}
use Rattle.std.specs.Option.{option_or}
use Rattle.exceptions.specs.Exceptions as tree
use Rattle.job_story.specs.Notes.{kind_of}
use Rattle.story_index.specs.Found.{value_at}
use Rattle.story_index.specs.Seen.{event_in}
use Rattle.story_waits.proofs.object_kinds.kinds_of.Given as goal

abbrev pub invariant-events : goal.invariant-events
invariant-events l =
    (object : tree.Label) →
    option_or (value_at l.kinds object) (kind_of object (map event_in (drop l.event-index l.walked))) ≡ kind_of object (map event_in l.walked)
