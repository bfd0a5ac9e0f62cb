use Rattle.std.proofs.Common.{ap, ◌∙◌}
use Rattle.job_runner.proofs.Finishing.{all_ended, ends_in_time, follows_each, is_run}
use Rattle.job_runner.proofs.runner.Runner.finish.Goals as goal

pub records_of-requires-clause-ended : goal.records_of-requires-clause-ended
records_of-requires-clause-ended c =
    all_ended c.requires.underway c.requires.over c.into_rows.result.items (ap (λ v. v.items) c.into_rows.ensures)

pub returns-clause-run : goal.returns-clause-run
returns-clause-run c =
    is_run c.requires.underway c.requires.over (ap (λ v. v.items) c.into_rows.ensures) c.in_ok-records.ensures c.new.result
    (c.new.ensures.name ∙ c.name.ensures) c.new.ensures.records c.new.ensures.cancelled_from c.new.ensures.grants

pub returns-clause-in_time : goal.returns-clause-in_time
returns-clause-in_time c =
    ends_in_time c.requires.underway c.requires.over (ap (λ v. v.items) c.into_rows.ensures) c.in_ok-records.ensures

pub returns-clause-follows : goal.returns-clause-follows
returns-clause-follows c =
    let same = ap (λ v. v.items) c.into_rows.ensures in
    follows_each c.requires.underway c.requires.over same c.in_ok-records.ensures c.new.result
    (is_run c.requires.underway c.requires.over same c.in_ok-records.ensures c.new.result
    (c.new.ensures.name ∙ c.name.ensures) c.new.ensures.records c.new.ensures.cancelled_from c.new.ensures.grants)
