use Rattle.std.proofs.Common.{ap, sym}
use Rattle.refusal_text.specs.Scopes.{enclosing_names}
use Rattle.refusal_text.proofs.Read.{none_read, some_read, names_in}
use Rattle.refusal_text.proofs.scopes.enclosing_names.Goals as goal

pub returns-in_default : goal.returns-in_default
returns-in_default c = λ format. sym (ap enclosing_names (none_read _ _ _ (c.in_ok-job.ensures format) c.in_default.is))

pub returns : goal.returns
returns c = λ format.
    names_in _ _ _ _ format _ (some_read _ c.in-Some.job _ _ (c.in_ok-job.ensures format) c.in-Some.is) c.as_slice.ensures c.in_ok-names.ensures
