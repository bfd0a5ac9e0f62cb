use Rattle.std.proofs.Common.{◌≡◌, List}
use Rattle.std.specs.Prelude.{map}
use Rattle.std.proofs.Math.ListN.{take}
use Rattle.exceptions.specs.Exceptions.{Label}
use Rattle.job_story.specs.Focus.{is_among, of_tasks}
use Rattle.story_index.specs.Seen.{event_in}
use Rattle.story_index.specs.Holds.{holds}
use Rattle.story_index.proofs.kept.of_tasks.Given as goal

abbrev pub invariant-events : goal.invariant-events
invariant-events l = (ls : List Label) → ((m : Label) → holds l.tasks m ≡ is_among m ls) →
    map event_in l.kept.items ≡ of_tasks ls (map event_in (take l.event-index l.events))
