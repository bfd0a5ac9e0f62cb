use Rattle.trio_text.proofs.Naming.{names_free}
use Rattle.trio_text.proofs.laws.law_names_free.Goals as goal

pub returns : goal.returns
returns c = names_free
