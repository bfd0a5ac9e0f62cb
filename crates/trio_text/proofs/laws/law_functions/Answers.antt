use Rattle.trio_text.proofs.Growing.{program_functions}
use Rattle.trio_text.proofs.laws.law_functions.Goals as goal

pub returns : goal.returns
returns c = program_functions
