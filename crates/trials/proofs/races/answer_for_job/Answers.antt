use Rattle.std.proofs.Common.{◌≤◌, ◌*◌, true, map, sym, ap, ◌∙◌}
use Rattle.std.specs.Io.Iter.{u64_saturate}
use Rattle.job_meaning.specs.Meaning.{meaning_end}
use Rattle.job_runner.specs.Runs.{rows_of, root_end}
use Rattle.job_edits.specs.Sites.{sites_in}
use Rattle.job_edits.specs.Copied.{copied_in}
use Rattle.job_edits.specs.FinerTicks.{finer_ticks_for, hair_scope}
use Rattle.race_text.specs.LineViews.{line_held}
use Rattle.trials.specs.TextRuns.{ran}
use Rattle.trials.proofs.RacesTabled.{in_time, ran_in_time, are_lines}
use Rattle.trials.proofs.races.answer_for_job.Goals as goal

pub returns : goal.returns
returns g c =
    let job = c.args.job.now in
    let question = c.args.question.now in
    let input = question.input.now in
    let limit = question.settings.limit in
    let rows = rows_of c.in_ok-run.run' in
    let lines = c.in_ok-lines.lines.items in
    let soon : meaning_end job input ≤ limit =
    in_time c.end.result (meaning_end job input) c.limit-limit.result limit (c.end.ensures ∙ ap root_end c.in_ok-run.ensures.records)
    c.limit-limit.ensures.value c.if-end-limit.false in
    are_lines question.text.now input limit c.saturating_mul.result job c.in_ok-tokens.tokens.items
    c.text_format.result c.of-clock.result c.in-Some.finer_ticks c.in_ok-scope.scope
    c.as_slice-5.result.now c.as_slice-6.result.now (ran true rows) (map line_held lines) c.in_ok-hairs.hairs c.requires.spells soon
    c.in_ok-tokens.ensures c.text_format.ensures c.of-clock.ensures
    (c.in_ok-scope.ensures ∙ ap hair_scope c.as_slice-3.ensures.value)
    (c.as_slice-5.ensures.value ∙ c.in_ok-sites.ensures ∙ ap sites_in c.as_slice.ensures.value)
    (c.as_slice-6.ensures.value ∙ c.in_ok-starts.ensures ∙ ap copied_in c.as_slice-4.ensures.value)
    (c.in-Some.ensures ∙ ap (λ n. finer_ticks_for c.of-clock.result n c.as_slice-2.result.now) c.limit-limit.ensures.value
    ∙ ap (finer_ticks_for c.of-clock.result limit) (c.as_slice-2.ensures.value ∙ sym c.as_slice-5.ensures.value))
    (c.saturating_mul.ensures ∙ ap (λ n. u64_saturate (n * c.in-Some.finer_ticks.factor)) c.limit-limit.ensures.value)
    (ran_in_time job input limit rows c.in_ok-run.ensures.records soon) c.in_ok-lines.ensures
    c.in_ok-hairs.ensures
