-- What `report_document` and `story_document` return: the report or the story of a job's meaning over an input as JSON, or the refusal
-- that the meaning names.
use Rattle.std.specs.Prelude.{ℕ, Option, List}
use Rattle.job_tree.specs.Tree.{Tree}
use Rattle.job_reader.specs.declared.fault.JobFault.{JobFault}
use Rattle.job_meaning.specs.Shown.{meaning_rows}
use Rattle.job_answers.specs.Views.{View, IsReport, IsStory}
use Rattle.job_answers.specs.declared.verdict.Verdict.{Verdict}
use Rattle.job_answers.specs.declared.story_verdict.StoryVerdict.{StoryVerdict}
use Rattle.json_story.specs.Values.{report_json, document}
use Rattle.commands.specs.Answers.{refusal_json, limit_json}
use Rattle.commands.specs.Explaining.{meaning_story}

-- the report of a job's meaning over an input, as a JSON document
abbrev pub meaning_report : Tree → List ℕ → List ℕ
meaning_report job input = document (report_json job.name (meaning_rows job input))

-- as JSON documents
abbrev pub json_view : View
json_view = record {
  refusal = λ (text : List ℕ) (fault : JobFault). document (refusal_json text fault);
  late = λ (limit : ℕ). document (limit_json limit);
  report = meaning_report;
  story = meaning_story;
}

-- a verdict and its bytes: the report, or the limit, or the refusal
abbrev pub IsVerdict : List ℕ → List ℕ → ℕ → Verdict → List ℕ → Type 0
IsVerdict text input limit verdict bytes = IsReport json_view text input limit verdict bytes

-- a verdict and its bytes: the story, or nothing if no task has the label that was asked for, or the refusal
abbrev pub IsStoryDocument : List ℕ → List ℕ → ℕ → Option (List ℕ) → StoryVerdict → List ℕ → Type 0
IsStoryDocument text input limit asked verdict bytes = IsStory json_view text input limit asked verdict bytes
