use Rattle.std.proofs.Common.{ap, ◌∙◌, map}
use Rattle.story_index.specs.Seen.{event_in}
use Rattle.job_answers.proofs.Stories.{job_explained}
use Rattle.job_answers.proofs.telling.job_verdict.Goals as goal

pub returns : goal.returns
returns g c =
    job_explained _ _ _ _ _ _ _ _ _ _ _ c.in_ok-story.ensures.ending c.in_ok-story.ensures.clock c.in_ok-story.ensures.table
    c.in_ok-story.ensures.until
    (ap (map event_in) c.as_slice.ensures.value ∙ (c.in_ok-walked.ensures ∙ c.in_ok-story.ensures.events))
    c.in_ok-answer.ensures
