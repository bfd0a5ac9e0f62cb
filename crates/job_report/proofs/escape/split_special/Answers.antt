use Rattle.job_report.proofs.Escaped.{escaped_none, escaped_some}
use Rattle.job_report.proofs.escape.split_special.Goals as goal

pub returns-in_default-clause-none : goal.returns-in_default-clause-none
returns-in_default-clause-none c =
    escaped_none _ _ _ _ c.plain_len.ensures.within c.plain_len.ensures.plain c.split_at.ensures.front c.split_at.ensures.back
    c.in_default.ensures.cases

pub returns-clause-parts : goal.returns-clause-parts
returns-clause-parts c =
    escaped_some _ _ _ _ _ _ c.plain_len.ensures.within c.plain_len.ensures.plain c.split_at.ensures.front c.split_at.ensures.back
    c.in-Some.ensures.cases.0
