use Rattle.std.proofs.Common.{map}
use Rattle.job_runner.specs.Runs.{rows_of}
use Rattle.race_text.specs.LineViews.{line_held}
use Rattle.trials.specs.Views.{text_run_seen}
use Rattle.trials.proofs.Gathered.{with_copies}
use Rattle.trials.proofs.race_work.lines_of_job.Goals as goal

pub returns : goal.returns
returns g c =
    with_copies c.args.original.now c.args.original.now.input.now (text_run_seen c.args.first.now) c.args.job.now (rows_of c.in_ok-run.run')
    (map line_held c.in_ok-lines.lines.items) (map line_held c.push_copies_of.new.lines.items) c.in_ok-run.ensures.records
    c.in_ok-lines.ensures c.in_ok-push_copies_of.ensures
