use Rattle.std.proofs.Common.{map, ap, sym, subst, ◌∙◌}
use Rattle.job_story.specs.CancelledFrom.{table_in}
use Rattle.job_meaning.specs.Clocks.{clock_of}
use Rattle.job_meaning.specs.GrantTable.{AreGrantsOf, grants_made}
use Rattle.job_runner.specs.Runs.{rows_of}
use Rattle.task_table.specs.Records.{row_in}
use Rattle.job_answers.proofs.Tables.{is_of_meaning}
use Rattle.outcomes.specs.JobOutcomes.{cancelled_in}
use Rattle.trials.proofs.Summaries.{is_summary}
use Rattle.trials.proofs.summary.summary_of.Goals as goal

pub tell-requires-clause-lent : goal.tell-requires-clause-lent
tell-requires-clause-lent g c =
    subst (AreGrantsOf c.args.input.now) (sym c.into_tables-cancelled_from.ensures.grants) c.in_ok-run.ensures.lent

pub returns : goal.returns
returns g c =
    let run = c.in_ok-run.run' in
    let table = table_in c.in_ok-table.table in
    let into = c.into_tables-cancelled_from in
    is_summary c.args.job.now c.args.input.now (rows_of run) table (grants_made into.result.1) _ c.in_ok-run.ensures.records
    (c.of-clock.ensures ∙ ap clock_of c.text_format.ensures) c.end-end.ensures c.in_ok-exc.ensures
    (c.in_ok-cancelled.ensures ∙ ap (λ rs. cancelled_in (map row_in rs)) c.records.ensures)
    (is_of_meaning table _ run c.args.job.now c.args.input.now c.law_cancelled_from_of_meaning.ensures into.ensures.cancelled_from
    c.in_ok-run.ensures.cancelled_from c.in_ok-table.ensures)
    (ap grants_made into.ensures.grants ∙ c.in_ok-run.ensures.granted) c.in_ok-events.ensures
