-- The steps from a run to the text of its story.
use Rattle.std.specs.Prelude.{◌≡◌, ◌⊎◌, ℕ, Option, Some, None, List, [], map}
use Rattle.std.specs.Global.{Vec}
use Rattle.exceptions.specs.Exceptions.{Label}
use Rattle.job_meaning.specs.Log.{Table}
use Rattle.job_meaning.specs.declared.clock.Clock.{Clock}
use Rattle.job_story.specs.Events.{Event, in_order}
use Rattle.job_story.specs.Notes.{Notes, notes_in}
use Rattle.job_story.specs.Sentences.{kept_text}
use Rattle.job_story.specs.Held.{event_of}
use Rattle.job_story.specs.Limit.{kept_text_to}
use Rattle.job_story.specs.Focus.{concerned_tasks, of_tasks, task_named}
use Rattle.story_index.specs.Nearest.{nearest_in}
use Rattle.story_index.specs.Until.{events_until}
use Rattle.job_answers.specs.Stories.{label_or_nothing, IsAbout, IsAboutNone}
use Rattle.job_answers.specs.declared.story_verdict.StoryVerdict.{StoryVerdict}
use Rattle.job_answers.specs.declared.story_verdict.StoryVerdict.TheVariants as verdict
use Rattle.job_answers.specs.declared.meaning.Story.{Story}
use Rattle.job_answers.specs.declared.meaning.Ending.{Ending}
use Rattle.job_answers.specs.declared.meaning.Ending.TheVariants.{Done, Raised, Late}
use Rattle.job_answers.specs.declared.about.About.{About}
use Rattle.job_answers.specs.declared.about.About.TheVariants.{All, Task, NoTask}

-- the verdict on the story of such a run
abbrev pub verdict_of : Ending → StoryVerdict
verdict_of Done = verdict.Done
verdict_of Raised = verdict.Raised
verdict_of Late = verdict.Limit

-- the events of a story that was run, as far as its limit shows them
abbrev pub events_shown : Story → List Event
events_shown story = events_until story.clock story.until (map event_of story.events.items)

-- the text of selected events of a story, up to a limit or whole
abbrev pub text_until : Clock → Option ℕ → Table → Notes → List Event → List Event → List Event → List ℕ
text_until clock None table notes all sorted walked = kept_text clock table notes all sorted
text_until clock (Some limit) table notes all sorted walked = kept_text_to clock table notes limit all sorted walked

-- the text of a story, from its events in the order of the walk: of all tasks, or of those that concern one task
abbrev pub story_shown : Clock → Table → Option ℕ → Option Label → List Event → List ℕ
story_shown clock table until None walked = text_until clock until table (notes_in walked) (in_order walked) (in_order walked) walked
story_shown clock table until (Some task) walked =
    let all = in_order walked in
    let tasks = concerned_tasks table all task in
    text_until clock until table (notes_in walked) all (of_tasks tasks all) (of_tasks tasks walked)

-- which task was asked for among these events
abbrev pub IsAsked : Option (List ℕ) → List Event → About → Type 0
IsAsked asked es All = asked ≡ None
IsAsked asked es (Task label) = (text : List ℕ) × (asked ≡ Some text) × (task_named text es ≡ Some label.now)
IsAsked asked es (NoTask nearest) =
    (text : List ℕ) × (asked ≡ Some text) × (task_named text es ≡ None) × (nearest.items ≡ label_or_nothing (nearest_in text es))

-- a verdict on a story with these events, and its text: of all tasks, or of those that concern one task, or nothing where no task
-- has the label
abbrev pub IsStoryAbout : Clock → Table → Option ℕ → Ending → Option (List ℕ) → List Event → StoryVerdict → List ℕ → Type 0
IsStoryAbout clock table until ending asked walked given bytes =
    ((task : Option Label) × IsAbout asked walked task × (given ≡ verdict_of ending) × (bytes ≡ story_shown clock table until task walked))
    ⊎ ((nearest : Vec ℕ) × IsAboutNone asked walked nearest.items × (given ≡ verdict.NoTask nearest) × (bytes ≡ []))
