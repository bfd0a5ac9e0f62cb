use Rattle.std.proofs.Common.{ap, ◌∙◌, map}
use Rattle.story_index.specs.Seen.{event_in}
use Rattle.chart.specs.HeldBars.{bar_of}
use Rattle.page.specs.Views.{row_held}
use Rattle.page.proofs.Drawn.{rows_drawn}
use Rattle.page.proofs.views.rows_of.Goals as goal

pub returns : goal.returns
returns g c =
    rows_drawn c.task_rows.result (λ rows. map row_held rows.items) _ _ _ _ _ _ _ _ c.in_ok-story.ensures.clock c.in_ok-story.ensures.table
    c.in_ok-story.ensures.until
    (c.in_ok-index.ensures ∙ (ap (map event_in) c.as_slice.ensures.value ∙ (c.in_ok-walked.ensures ∙ c.in_ok-story.ensures.events)))
    (ap (map bar_of) c.as_slice-2.ensures.value ∙ c.in_ok-bars.ensures) c.task_rows.ensures
