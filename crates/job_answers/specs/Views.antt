-- Answers about the run of a job, in any view: the report or the story of its meaning, or the refusal that the meaning names.
use Rattle.std.specs.Prelude.{◌≡◌, ℕ, Option, List, []}
use Rattle.job_tree.specs.Tree.{Tree}
use Rattle.exceptions.specs.Exceptions.{Label}
use Rattle.job_reader.specs.declared.fault.JobFault.{JobFault}
use Rattle.job_reader.specs.Refusals.{Spells, IsRefused}
use Rattle.job_answers.specs.Stories.{story_events, IsAbout, IsAboutNone}
use Rattle.job_answers.specs.Endings.{IsEnding}
use Rattle.job_answers.specs.declared.meaning.Ending.TheVariants as ending
use Rattle.job_answers.specs.declared.verdict.Verdict.{Verdict}
use Rattle.job_answers.specs.declared.verdict.Verdict.TheVariants.{Done, Raised, JobRefused, Limit}
use Rattle.job_answers.specs.declared.story_verdict.StoryVerdict.{StoryVerdict}
use Rattle.job_answers.specs.declared.story_verdict.StoryVerdict.TheVariants as story

-- What a view writes: of a text that is refused, of a job that ends later than a limit, and of a meaning its report over an input,
-- and its story up to a limit, or the part of the story that concerns a task.
pub record View : Type 0 where
  pub refusal : List ℕ → JobFault → List ℕ
  pub late : ℕ → List ℕ
  pub report : Tree → List ℕ → List ℕ
  pub story : ℕ → Tree → List ℕ → Option Label → List ℕ

-- ---- reports

-- The verdict on a job that was read, and its bytes: the report if the job ends by the limit, or else the limit.
abbrev pub IsReportVerdict : View → Tree → List ℕ → ℕ → Verdict → List ℕ → Type 0
IsReportVerdict view job input limit Done bytes = IsEnding job input limit ending.Done × (bytes ≡ view.report job input)
IsReportVerdict view job input limit Raised bytes = IsEnding job input limit ending.Raised × (bytes ≡ view.report job input)
IsReportVerdict view job input limit (JobRefused fault) bytes = ⊥
IsReportVerdict view job input limit Limit bytes = IsEnding job input limit ending.Late × (bytes ≡ view.late limit)

-- A verdict and its bytes: that on the job which the text spells, or the refusal that the meaning names.
abbrev pub IsReport : View → List ℕ → List ℕ → ℕ → Verdict → List ℕ → Type 0
IsReport view text input limit (JobRefused fault) bytes = IsRefused text fault.kind fault.at × (bytes ≡ view.refusal text fault)
IsReport view text input limit verdict bytes = (job : Tree) × Spells text job × IsReportVerdict view job input limit verdict bytes

-- ---- stories

-- these bytes are the story of the job's meaning, or of the task that was requested
pub record IsJobStory (view : View) (job : Tree) (input : List ℕ) (limit : ℕ) (asked : Option (List ℕ)) (bytes : List ℕ) : Type 0 where
  pub task : Option Label
  pub about : IsAbout asked (story_events limit job input) task
  pub story : bytes ≡ view.story limit job input task

-- The verdict on a job that was read, and its bytes: the story of the meaning; nothing if no task has the label.
abbrev pub IsStoryVerdict : View → Tree → List ℕ → ℕ → Option (List ℕ) → StoryVerdict → List ℕ → Type 0
IsStoryVerdict view job input limit asked story.Done bytes =
    IsJobStory view job input limit asked bytes × IsEnding job input limit ending.Done
IsStoryVerdict view job input limit asked story.Raised bytes =
    IsJobStory view job input limit asked bytes × IsEnding job input limit ending.Raised
IsStoryVerdict view job input limit asked (story.JobRefused fault) bytes = ⊥
IsStoryVerdict view job input limit asked story.Limit bytes =
    IsJobStory view job input limit asked bytes × IsEnding job input limit ending.Late
IsStoryVerdict view job input limit asked (story.NoTask nearest) bytes =
    IsAboutNone asked (story_events limit job input) nearest.items × (bytes ≡ [])

-- A verdict and its bytes: that on the job which the text spells, or the refusal that the meaning names.
abbrev pub IsStory : View → List ℕ → List ℕ → ℕ → Option (List ℕ) → StoryVerdict → List ℕ → Type 0
IsStory view text input limit asked (story.JobRefused fault) bytes =
    IsRefused text fault.kind fault.at × (bytes ≡ view.refusal text fault)
IsStory view text input limit asked verdict bytes =
    (job : Tree) × Spells text job × IsStoryVerdict view job input limit asked verdict bytes
