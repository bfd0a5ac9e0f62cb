use Rattle.trio_text.proofs.Naming.{names_differ}
use Rattle.trio_text.proofs.laws.law_names_differ.Goals as goal

pub returns : goal.returns
returns c = names_differ
