use Rattle.std.proofs.Common.{◌≡◌, List}
use Rattle.std.specs.Prelude.{map}
use Rattle.std.proofs.Math.ListN.{take}
use Rattle.exceptions.specs.Exceptions.{Label}
use Rattle.job_meaning.specs.Log.{Table}
use Rattle.job_story.specs.Events.{Event}
use Rattle.story_index.specs.Knows.{Knows}
use Rattle.story_index.specs.Seen.{event_in}
use Rattle.story_index.specs.Holds.{holds}
use Rattle.story_index.specs.Added.{is_added}
use Rattle.story_index.proofs.rounds.causers.Given as goal

abbrev pub invariant-events : goal.invariant-events
invariant-events l = (table : Table) (all : List Event) → Knows l.causes table all → (m : Label) →
    holds l.added m ≡ is_added (holds l.tasks) table all m (map event_in (take l.event-index l.events))
