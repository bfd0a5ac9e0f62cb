-- The verdict on a text, by that on the job which it spells.
use Rattle.std.proofs.Common.{◌≡◌, ℕ, Option, List}
use Rattle.exceptions.specs.Exceptions.{Label}
use Rattle.job_tree.specs.Tree.{Tree}
use Rattle.job_reader.specs.Refusals.{Spells}
use Rattle.job_answers.specs.declared.verdict.Verdict.{Verdict}
use Rattle.job_answers.specs.declared.verdict.Verdict.TheVariants.{Done, Raised, JobRefused, Limit}
use Rattle.job_answers.specs.declared.story_verdict.StoryVerdict.{StoryVerdict}
use Rattle.job_answers.specs.declared.story_verdict.StoryVerdict.TheVariants as story
use Rattle.job_answers.specs.declared.meaning.Ending.{Ending}
use Rattle.job_answers.specs.declared.meaning.Ending.TheVariants as ending
use Rattle.job_answers.specs.Stories.{story_events, IsAbout}
use Rattle.job_answers.specs.Endings.{IsEnding}
use Rattle.job_answers.specs.Tellings.{verdict_of}
use Rattle.job_answers.specs.Views.{View, IsReportVerdict, IsReport, IsStoryVerdict, IsStory}

pub report_of_text : (view : View) (text input : List ℕ) (limit : ℕ) (verdict : Verdict) (bytes : List ℕ) (job : Tree) → Spells text job →
    IsReportVerdict view job input limit verdict bytes → IsReport view text input limit verdict bytes
report_of_text view text input limit Done bytes job spelt h = (job, spelt, h)
report_of_text view text input limit Raised bytes job spelt h = (job, spelt, h)
report_of_text view text input limit (JobRefused fault) bytes job spelt h = absurd h
report_of_text view text input limit Limit bytes job spelt h = (job, spelt, h)

pub story_of_text : (view : View) (text input : List ℕ) (limit : ℕ) (asked : Option (List ℕ)) (verdict : StoryVerdict) (bytes : List ℕ)
    (job : Tree) → Spells text job → IsStoryVerdict view job input limit asked verdict bytes → IsStory view text input limit asked verdict bytes
story_of_text view text input limit asked story.Done bytes job spelt h = (job, spelt, h)
story_of_text view text input limit asked story.Raised bytes job spelt h = (job, spelt, h)
story_of_text view text input limit asked (story.JobRefused fault) bytes job spelt h = absurd h
story_of_text view text input limit asked story.Limit bytes job spelt h = (job, spelt, h)
story_of_text view text input limit asked (story.NoTask nearest) bytes job spelt h = (job, spelt, h)

-- the verdict on the story of a job that ends so
pub story_verdict_is : (view : View) (job : Tree) (input : List ℕ) (limit : ℕ) (asked : Option (List ℕ)) (end : Ending) (task : Option Label)
    (bytes : List ℕ) → IsEnding job input limit end → IsAbout asked (story_events limit job input) task →
    bytes ≡ view.story limit job input task → IsStoryVerdict view job input limit asked (verdict_of end) bytes
story_verdict_is view job input limit asked ending.Done task bytes h about is = (record { task = task; about = about; story = is }, h)
story_verdict_is view job input limit asked ending.Raised task bytes h about is = (record { task = task; about = about; story = is }, h)
story_verdict_is view job input limit asked ending.Late task bytes h about is = (record { task = task; about = about; story = is }, h)
