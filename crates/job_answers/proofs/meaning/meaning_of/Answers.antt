use Rattle.std.proofs.Common.{sym, subst}
use Rattle.job_meaning.specs.GrantTable.{AreGrantsOf}
use Rattle.job_answers.proofs.Tables.{is_of_meaning}
use Rattle.job_answers.proofs.meaning.meaning_of.Goals as goal

pub returns-clause-table : goal.returns-clause-table
returns-clause-table g c =
    is_of_meaning _ _ c.in_ok-run.run' _ _ c.law_cancelled_from_of_meaning.ensures c.into_tables-cancelled_from.ensures.cancelled_from
    c.in_ok-run.ensures.cancelled_from c.in_ok-table.ensures

pub returns-clause-lent : goal.returns-clause-lent
returns-clause-lent g c =
    subst (AreGrantsOf c.args.question.now.input.now) (sym c.into_tables-cancelled_from.ensures.grants) c.in_ok-run.ensures.lent
