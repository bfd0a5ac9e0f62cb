use Rattle.std.specs.Prelude.{map}
use Rattle.std.proofs.Math.ListN.{take}
use Rattle.job_story.specs.CancelledFrom.{table_in}
use Rattle.story_index.specs.Seen.{event_in}
use Rattle.story_index.specs.Knows.{Knows}
use Rattle.story_index.proofs.causes.Causes.of.Given as goal

abbrev pub invariant-events : goal.invariant-events
invariant-events l = Knows l.causes (table_in l.cancelled_from) (map event_in (take l.event-index l.events))
