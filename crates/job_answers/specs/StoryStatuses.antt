-- The exit status of the program for what `explain` wrote.
use Rattle.std.specs.Prelude.{ℕ}
use Rattle.job_answers.specs.declared.story_verdict.StoryVerdict.{StoryVerdict}
use Rattle.job_answers.specs.declared.story_verdict.StoryVerdict.TheVariants.{Done, Raised, JobRefused, Limit, NoTask}

abbrev pub story_status_of : StoryVerdict → ℕ
story_status_of Done = 0
story_status_of Raised = 1
story_status_of (JobRefused fault) = 2
story_status_of Limit = 3
story_status_of (NoTask nearest) = 2
