use Rattle.std.proofs.Common.{ap, ◌∙◌, map}
use Rattle.job_story.specs.CancelledFrom.{table_in}
use Rattle.story_index.specs.Seen.{event_in}
use Rattle.story_text.specs.Known.{clock_in, events_in, cancelled_from_in, notes_held}
use Rattle.job_answers.proofs.Texts.{all_shown, one_shown}
use Rattle.job_answers.proofs.text.text_of_story.Goals as goal

pub returns-in-Some : goal.returns-in-Some
returns-in-Some c =
    let known = c.new-known.result in
    rw (c.in-Some.is)
    (one_shown c.task_text.result c.args.shown.now.clock (clock_in known) c.args.shown.now.until (table_in c.args.shown.now.table.now)
    (cancelled_from_in known) (notes_held known) (events_in known) (map event_in c.args.shown.now.walked.now)
    c.new-known.ensures.clock c.new-known.ensures.cancelled_from (c.new-known.ensures.notes ∙ c.in_ok-notes.ensures)
    (c.new-known.ensures.events ∙ ap (map event_in) c.as_slice-2.ensures.value ∙ c.in_ok-all.ensures) c.in-Some.task.now c.task_text.ensures)

pub returns : goal.returns
returns c =
    let known = c.new-known.result in
    rw (c.in-None.is)
    (all_shown c.text_until.result c.args.shown.now.clock (clock_in known) c.args.shown.now.until (table_in c.args.shown.now.table.now)
    (cancelled_from_in known) (notes_held known) (events_in known) (map event_in c.args.shown.now.walked.now)
    c.new-known.ensures.clock c.new-known.ensures.cancelled_from (c.new-known.ensures.notes ∙ c.in_ok-notes.ensures)
    (c.new-known.ensures.events ∙ ap (map event_in) c.as_slice-2.ensures.value ∙ c.in_ok-all.ensures)
    _ (ap (map event_in) c.as_slice-in-None.ensures.value ∙ c.in_ok-all.ensures) c.text_until.ensures)
