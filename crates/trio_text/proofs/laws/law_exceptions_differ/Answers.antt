use Rattle.trio_text.proofs.Naming.{exceptions_differ}
use Rattle.trio_text.proofs.Raising.{raised_differ}
use Rattle.trio_text.proofs.laws.law_exceptions_differ.Goals as goal

pub returns-clause-own : goal.returns-clause-own
returns-clause-own c = exceptions_differ

pub returns-clause-raised : goal.returns-clause-raised
returns-clause-raised c = raised_differ
