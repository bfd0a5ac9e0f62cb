use Rattle.std.proofs.Common.{ap, ◌∙◌, map}
use Rattle.page.specs.Views.{row_held, warned_held}
use Rattle.page.proofs.Answered.{page_answers}
use Rattle.page.proofs.making.page_of_job.Goals as goal

pub returns : goal.returns
returns g c =
    λ text formatted.
    page_answers text _ _ c.args.job.now _
    (record {
      name = c.bytes.result.now;
      outcome = c.as_slice.result.now;
      job = c.args.question.now.text.now;
      warned = map warned_held c.as_slice-2.result.now;
      places = c.as_slice-3.result.now;
      chart = c.as_slice-4.result.now;
      rows = map row_held c.as_slice-5.result.now;
      story = c.as_slice-6.result.now;
      changing = c.as_slice-7.result.now;
      faults = c.as_slice-8.result.now;
      races = c.as_slice-9.result.now;
      report = c.as_slice-10.result.now;
      made = c.args.made.now;
    })
    _ _ _ _ _ _ _ _ _ _ _ _ c.requires.spelled (c.bytes.ensures ∙ c.name-name.ensures) c.as_slice-3.ensures.value c.in_ok-places.ensures
    (ap (map warned_held) c.as_slice-2.ensures.value) c.in_ok-warned.ensures c.as_slice-10.ensures.value c.as_slice-6.ensures.value
    c.as_slice-4.ensures.value c.in_ok-views.ensures (ap (map row_held) c.as_slice-5.ensures.value) c.in_ok-rows.ensures
    c.as_slice.ensures.value c.as_slice-7.ensures.value c.as_slice-8.ensures.value c.as_slice-9.ensures.value c.name-name.ensures
    c.in_ok-tables.ensures c.in_ok-bytes.ensures formatted
