-- The verdict on a text as JSON, by that on the job which it spells.
use Rattle.std.proofs.Common.{ℕ, Option, List}
use Rattle.job_tree.specs.Tree.{Tree}
use Rattle.job_reader.specs.Refusals.{Spells}
use Rattle.job_answers.specs.declared.verdict.Verdict.{Verdict}
use Rattle.job_answers.specs.declared.story_verdict.StoryVerdict.{StoryVerdict}
use Rattle.job_answers.specs.Views.{IsReportVerdict, IsStoryVerdict}
use Rattle.job_answers.proofs.Views.{report_of_text, story_of_text}
use Rattle.commands.specs.Serving.{json_view, IsVerdict, IsStoryDocument}

pub report_of_spelt : (text input : List ℕ) (limit : ℕ) (verdict : Verdict) (bytes : List ℕ) (job : Tree) → Spells text job →
    IsReportVerdict json_view job input limit verdict bytes → IsVerdict text input limit verdict bytes
report_of_spelt = report_of_text json_view

pub story_of_spelt : (text input : List ℕ) (limit : ℕ) (asked : Option (List ℕ)) (verdict : StoryVerdict) (bytes : List ℕ) (job : Tree) →
    Spells text job → IsStoryVerdict json_view job input limit asked verdict bytes → IsStoryDocument text input limit asked verdict bytes
story_of_spelt = story_of_text json_view
