use Rattle.std.proofs.Common.{◌∙◌, ap, sym, map}
use Rattle.std.proofs.lemmas.Result.{IfOk-weaker}
use Rattle.job_story.specs.CancelledFrom.{table_in}
use Rattle.story_index.specs.Seen.{event_in}
use Rattle.story_text.specs.Known.{clock_in, events_in, cancelled_from_in, notes_held}
use Rattle.chart.specs.HeldBars.{bar_of}
use Rattle.chart.specs.HeldColumns.{column_of}
use Rattle.svg.proofs.Drawn.{drawing_is}
use Rattle.svg.proofs.document.chart_svg.Goals as goal

pub returns-clause-drawing : goal.returns-clause-drawing
returns-clause-drawing c =
    let known = c.new-known.result in
    let all = c.as_slice-2.result.now in
    IfOk-weaker c.document.result _ _
    (λ svg p.
    drawing_is c.args.picture.now.clock c.args.picture.now.width
    (table_in c.args.picture.now.cancelled_from.now) c.args.picture.now.until
    (map event_in c.args.picture.now.walked.now) (map bar_of c.args.bars.now)
    c.in_ok-longest_name.field-0 c.in_ok-less.less c.as_slice.result.now (map column_of all) (map column_of c.as_slice-3.result.now)
    (clock_in known) (cancelled_from_in known) (events_in known)
    (map event_in c.args.sorted.now) (notes_held known) svg.items (c.as_slice.ensures.value ∙ c.in_ok-ticks.ensures)
    (ap (map column_of) c.as_slice-2.ensures.value ∙ c.in_ok-columns.ensures)
    (ap (map column_of) (c.as_slice-3.ensures.value ∙ sym c.as_slice-2.ensures.value)) c.in_ok-less.ensures c.in_ok-longest_name.ensures
    c.new-known.ensures.clock
    c.new-known.ensures.cancelled_from
    c.new-known.ensures.events c.requires.sorted (c.new-known.ensures.notes ∙ c.in_ok-notes.ensures) p)
    c.document.ensures.drawing
