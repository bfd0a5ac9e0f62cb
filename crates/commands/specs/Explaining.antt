-- The story of a job's meaning over an input as JSON.
use Rattle.std.specs.Prelude.{◌≡◌, ◌⊎◌, ℕ, Option, List, []}
use Rattle.std.specs.Global.{Vec}
use Rattle.job_tree.specs.Tree.{Tree}
use Rattle.exceptions.specs.Exceptions.{Label}
use Rattle.cancel_scopes.specs.Sight.{Tick}
use Rattle.job_meaning.specs.Log.{Table}
use Rattle.job_meaning.specs.Moments.{clock_of}
use Rattle.job_meaning.specs.declared.clock.Clock.{Clock}
use Rattle.job_meaning.specs.Meaning.{meaning_table}
use Rattle.job_story.specs.Events.{Event}
use Rattle.job_answers.specs.Stories.{story_events, shown_until, IsAbout, IsAboutNone}
use Rattle.job_answers.specs.Tellings.{verdict_of}
use Rattle.job_answers.specs.declared.meaning.Ending.{Ending}
use Rattle.job_answers.specs.declared.story_verdict.StoryVerdict.{StoryVerdict}
use Rattle.job_answers.specs.declared.story_verdict.StoryVerdict.TheVariants as story
use Rattle.json_story.specs.Values.{document}
use Rattle.json_story.specs.Stories.{story_json}

-- the story of a meaning as a JSON document, or the part of it that concerns a task: whole if it ends by the limit, or else up to
-- the limit
abbrev pub meaning_story : ℕ → Tree → List ℕ → Option Label → List ℕ
meaning_story limit job input task =
    document (story_json (clock_of job.format) job.name (shown_until limit job input) (meaning_table job input) task
    (story_events limit job input))

-- ---- steps

-- a verdict on a story with these events, and its bytes: of all tasks, or of those that concern one; nothing if no task has the
-- label
abbrev pub IsStoryAbout : Clock → List ℕ → Table → Tick → Ending → Option (List ℕ) → List Event → StoryVerdict → List ℕ → Type 0
IsStoryAbout clock name table until ending asked walked given bytes =
    ((task : Option Label) × IsAbout asked walked task × (given ≡ verdict_of ending)
    × (bytes ≡ document (story_json clock name until table task walked)))
    ⊎ ((nearest : Vec ℕ) × IsAboutNone asked walked nearest.items × (given ≡ story.NoTask nearest) × (bytes ≡ []))
