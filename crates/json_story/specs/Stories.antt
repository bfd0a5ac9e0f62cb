-- A story as a JSON value. The members of an object are in the order of their keys.
use Rattle.std.specs.Prelude.{ℕ, Option, Some, None, List, [], map, codes}
use Rattle.serde_json.specs.Data.{Data, object, member, no_members}
use Rattle.exceptions.specs.Exceptions.{Label}
use Rattle.cancel_scopes.specs.Sight.{Tick}
use Rattle.job_meaning.specs.Log.{Table}
use Rattle.job_meaning.specs.declared.clock.Clock.{Clock}
use Rattle.job_story.specs.Events.{Event, in_order}
use Rattle.job_story.specs.Notes.{Notes, notes_in}
use Rattle.job_story.specs.Limit.{running_in}
use Rattle.job_story.specs.Focus.{concerned_tasks, of_tasks}
use Rattle.json_story.specs.Values.{list_of, text_json}
use Rattle.json_story.specs.Events.{tick_json, event_json}
use Rattle.json_story.specs.Running.{task_json}

-- the tasks that have not ended by the limit, if the story is cut off at one
abbrev pub running_json : Clock → Tick → List Event → List Event → List Data
running_json clock None sorted walked = []
running_json clock (Some limit) sorted walked = map (task_json clock sorted) (running_in walked walked)

-- some events of a story, in order and in the order of the walk; causes are found among all of its events
abbrev pub kept_json : Clock → List ℕ → Tick → Table → Notes → List Event → List Event → List Event → Data
kept_json clock name until table notes all sorted walked =
    object (member (codes "events") (list_of (map (event_json clock table notes all) sorted)) (member (codes "job") (text_json name)
    (member (codes "limit") (tick_json until) (member (codes "running") (list_of (running_json clock until sorted walked)) no_members))))

-- A story of a job by a table, whole or cut off at a limit, which is a tick, by its events in the order of the walk: of all
-- tasks, or of those that concern one.
abbrev pub story_json : Clock → List ℕ → Tick → Table → Option Label → List Event → Data
story_json clock name until table None walked = kept_json clock name until table (notes_in walked) (in_order walked) (in_order walked) walked
story_json clock name until table (Some task) walked =
    let all = in_order walked in
    let tasks = concerned_tasks table all task in
    kept_json clock name until table (notes_in walked) all (of_tasks tasks all) (of_tasks tasks walked)
