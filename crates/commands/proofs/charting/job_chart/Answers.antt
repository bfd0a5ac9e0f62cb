use Rattle.std.proofs.Common.{ap, ◌∙◌, map}
use Rattle.story_index.specs.Seen.{event_in}
use Rattle.commands.proofs.Charted.{job_charted}
use Rattle.commands.proofs.charting.job_chart.Goals as goal

pub returns : goal.returns
returns g c =
    job_charted _ _ _ _ _ _ _ _ _ _ _ c.in_ok-story.ensures.ending c.in_ok-story.ensures.clock c.in_ok-story.ensures.table
    c.in_ok-story.ensures.until
    (ap (map event_in) c.as_slice.ensures.value ∙ (c.in_ok-walked.ensures ∙ c.in_ok-story.ensures.events))
    c.in_ok-bytes.ensures.chart c.in_ok-bytes.ensures.well c.verdict_of.ensures
