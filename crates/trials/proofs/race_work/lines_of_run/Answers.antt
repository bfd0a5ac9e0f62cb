use Rattle.std.proofs.Common.{ap, map}
use Rattle.std.proofs.lemmas.Result.{IfOk-weaker}
use Rattle.task_table.specs.Records.{row_in}
use Rattle.job_runner.specs.Runs.{rows_of}
use Rattle.race_text.specs.LineViews.{found_held, line_held}
use Rattle.trials.specs.Views.{text_run_seen}
use Rattle.trials.proofs.Gathered.{of_run}
use Rattle.trials.proofs.race_work.lines_of_run.Goals as goal

pub returns : goal.returns
returns g c =
    IfOk-weaker c.after_first.result _ _
    (λ lines are. of_run c.args.original.now c.args.original.now.input.now (text_run_seen c.args.first.now) (map row_in c.records.result.now)
    (rows_of c.args.run.now) c.end.result (found_held c.in_ok-found.found) (map line_held c.in_ok-moves.moves.items)
    (map line_held lines.items) (ap (map row_in) c.records.ensures) c.end.ensures c.in_ok-found.ensures c.in_ok-moves.ensures are)
    c.after_first.ensures
