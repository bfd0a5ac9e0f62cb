use Rattle.std.proofs.Common.{◌≡◌, ◌++◌, drop}
use Rattle.std.specs.Prelude.{map}
use Rattle.story_index.specs.Seen.{event_in}
use Rattle.job_story.specs.CancelledFrom.{table_in}
use Rattle.job_story.specs.Limit.{running_in, running_text}
use Rattle.story_index.specs.Tasks.{sorted_in, walked_in}
use Rattle.story_text.proofs.limit.push_running.Given as goal

abbrev pub invariant-walked : goal.invariant-walked
invariant-walked l =
    l.out.items
    ++ running_text l.clock (table_in l.cancelled_from) l.width (sorted_in l.tasks) (running_in (walked_in l.tasks) (map event_in (drop l.event-index l.walked)))
    ≡ l.fn.out.items ++ running_text l.clock (table_in l.cancelled_from) l.width (sorted_in l.tasks) (running_in (walked_in l.tasks) (map event_in l.walked))
