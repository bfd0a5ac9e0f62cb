use Rattle.outcomes.specs.Views.{job_outcome_held}
use Rattle.trials.proofs.SweepsTabled.{are_seen}
use Rattle.trials.proofs.sweeps.values_of.Goals as goal

pub returns : goal.returns
returns g c =
    let swept = c.args.swept.now in
    let question = swept.question.now in
    are_seen question.text.now question.input.now question.settings.limit c.limit-limit.result swept.number c.args.job.now c.args.values.now
    (job_outcome_held c.in_ok-first.first) c.in_ok-of_values.of_values.items c.limit-limit.ensures.value c.in_ok-first.ensures
    c.in_ok-of_values.ensures
