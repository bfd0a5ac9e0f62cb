use Rattle.std.proofs.Common.{◌≡◌, ◌++◌, drop}
use Rattle.std.specs.Prelude.{map}
use Rattle.serde_json.specs.View.{view}
use Rattle.story_index.specs.Seen.{event_in}
use Rattle.job_story.specs.Limit.{running_in}
use Rattle.json_story.specs.Running.{task_json}
use Rattle.story_index.specs.Tasks.{sorted_in, walked_in}
use Rattle.json_story.proofs.running.running_values.Given as goal

abbrev pub invariant-walked : goal.invariant-walked
invariant-walked l =
    map view l.values.items
    ++ map (task_json l.clock (sorted_in l.tasks)) (running_in (walked_in l.tasks) (map event_in (drop l.event-index l.walked)))
    ≡ map (task_json l.clock (sorted_in l.tasks)) (running_in (walked_in l.tasks) (map event_in l.walked))
