-- The story of a job's meaning over an input, and the task that was requested.
use Rattle.std.specs.Prelude.{◌≡◌, ℕ, Bool, true, false, nat_le, Option, Some, None, List, [], IsSome}
use Rattle.job_tree.specs.Tree.{Tree}
use Rattle.exceptions.specs.Exceptions.{Label}
use Rattle.job_meaning.specs.Meaning.{root_label, meaning_end}
use Rattle.job_meaning.specs.Tables.{meaning_tables}
use Rattle.job_story.specs.Tell.{story_by}
use Rattle.job_story.specs.Events.{Event, events_of}
use Rattle.job_story.specs.Sentences.{story_text}
use Rattle.exceptions.specs.Texts.{label_text}
use Rattle.job_story.specs.Limit.{walked_to, story_to}
use Rattle.job_story.specs.Focus.{story_of_task, story_of_task_to, task_named}
use Rattle.story_index.specs.Nearest.{nearest_in}

-- ---- the story of a meaning

-- the story, or the part of it that concerns a task
abbrev pub whole_story : Tree → List ℕ → Option Label → List ℕ
whole_story job input None = story_text (meaning_tables job input) job input
whole_story job input (Some task) = story_of_task (meaning_tables job input) job input task

-- the story up to a limit, or the part of it that concerns a task
abbrev pub front_story : ℕ → Tree → List ℕ → Option Label → List ℕ
front_story limit job input None = story_to (meaning_tables job input) limit job input
front_story limit job input (Some task) = story_of_task_to (meaning_tables job input) limit job input task

-- the whole story where the job ends by the limit, and the story up to the limit otherwise
abbrev pub story_if : Bool → ℕ → Tree → List ℕ → Option Label → List ℕ
story_if true limit job input task = whole_story job input task
story_if false limit job input task = front_story limit job input task

-- the limit, where the story is cut off at it
abbrev pub until_if : Bool → ℕ → Option ℕ
until_if true limit = None
until_if false limit = Some limit

-- the limit, where the meaning ends later
abbrev pub shown_until : ℕ → Tree → List ℕ → Option ℕ
shown_until limit job input = until_if (nat_le (meaning_end job input) limit) limit

-- the story of a meaning: whole where it ends by the limit, and up to the limit otherwise
abbrev pub meaning_story : ℕ → Tree → List ℕ → Option Label → List ℕ
meaning_story limit job input task = story_if (nat_le (meaning_end job input) limit) limit job input task

-- the events of the story, in the order of the walk
abbrev pub story_events_if : Bool → ℕ → Tree → List ℕ → List Event
story_events_if true limit job input = events_of (root_label job.name) (story_by (meaning_tables job input) job input)
story_events_if false limit job input = walked_to (meaning_tables job input) limit job input

abbrev pub story_events : ℕ → Tree → List ℕ → List Event
story_events limit job input = story_events_if (nat_le (meaning_end job input) limit) limit job input

-- ---- the task that was asked for

-- the text of a label, or nothing where there is none
abbrev pub label_or_nothing : Option Label → List ℕ
label_or_nothing None = []
label_or_nothing (Some label) = label_text label

-- where a task was asked for by the text of its label, it is the first task of the story that has it
abbrev pub IsAbout : Option (List ℕ) → List Event → Option Label → Type 0
IsAbout None es task = task ≡ None
IsAbout (Some text) es task = IsSome task × (task ≡ task_named text es)

-- no task of the story has the label that was asked for, and this is the text of the nearest
abbrev pub IsAboutNone : Option (List ℕ) → List Event → List ℕ → Type 0
IsAboutNone None es nearest = ⊥
IsAboutNone (Some text) es nearest = (task_named text es ≡ None) × (nearest ≡ label_or_nothing (nearest_in text es))
