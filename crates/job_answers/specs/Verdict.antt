-- What `serve` and `explain` write: the report or the story of a job's meaning over an input, or the refusal that the meaning names.
use Rattle.std.specs.Prelude.{ℕ, Option, List, ◌++◌, codes, decimal}
use Rattle.job_tree.specs.Tree.{Tree}
use Rattle.job_reader.specs.declared.fault.JobFault.{JobFault}
use Rattle.job_reader.specs.Kinds.{number_of, name_of}
use Rattle.job_meaning.specs.Shown.{meaning_rows}
use Rattle.job_report.specs.Text.{report_text}
use Rattle.job_answers.specs.Stories.{meaning_story}
use Rattle.job_answers.specs.Views.{View, IsReport, IsStory}
use Rattle.job_answers.specs.declared.verdict.Verdict.{Verdict}
use Rattle.job_answers.specs.declared.story_verdict.StoryVerdict.{StoryVerdict}

-- the line for a refused job, such as `refused J6 Syntax at 27`
abbrev pub refusal_line : JobFault → List ℕ
refusal_line fault = codes "refused J" ++ decimal (number_of fault.kind) ++ codes " " ++ name_of fault.kind ++ codes " at "
    ++ decimal fault.at ++ codes "\n"

-- the line for a job that ends later than the limit
abbrev pub limit_line : ℕ → List ℕ
limit_line limit = codes "limit " ++ decimal limit ++ codes "\n"

-- the report of a job's meaning over an input
abbrev pub meaning_report : Tree → List ℕ → List ℕ
meaning_report job input = report_text job.name (meaning_rows job input)

-- as text, with the sentences of the story
abbrev pub text_view : View
text_view = record {
  refusal = λ (text : List ℕ) (fault : JobFault). refusal_line fault;
  late = limit_line;
  report = meaning_report;
  story = meaning_story;
}

-- A verdict and its bytes: the report if the job ends by the limit, the line of the limit if it ends later, or else
-- the refusal that the meaning names.
abbrev pub IsVerdict : List ℕ → List ℕ → ℕ → Verdict → List ℕ → Type 0
IsVerdict text input limit verdict bytes = IsReport text_view text input limit verdict bytes

-- A verdict and its bytes: the story, or nothing if no task has the label that was asked for, or the refusal.
abbrev pub IsStoryText : List ℕ → List ℕ → ℕ → Option (List ℕ) → StoryVerdict → List ℕ → Type 0
IsStoryText text input limit asked verdict bytes = IsStory text_view text input limit asked verdict bytes
