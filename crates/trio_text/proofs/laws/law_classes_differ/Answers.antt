use Rattle.trio_text.proofs.Naming.{classes_differ}
use Rattle.trio_text.proofs.laws.law_classes_differ.Goals as goal

pub returns : goal.returns
returns c = classes_differ
