use Rattle.job_lint.proofs.Answered.{only_found, exact_fault}
use Rattle.job_lint.proofs.linting.lints.Goals as goal

pub returns-clause-only : goal.returns-clause-only
returns-clause-only c = λ job spells. only_found c.args.text.now _ c.read_and_lint.result job c.read_and_lint.ensures spells

pub returns-clause-exact : goal.returns-clause-exact
returns-clause-exact c = λ kind at refused.
    exact_fault c.args.text.now _ c.read_and_lint.result kind at c.read_and_lint.ensures (λ x is. (is.job, is.spells)) refused
