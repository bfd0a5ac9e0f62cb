use Rattle.job_reader.proofs.Canonical.{canon_spells}
use Rattle.job_reader.proofs.laws.canonical_text_spells.Goals as goal

pub returns-clause-again : goal.returns-clause-again
returns-clause-again c = λ text job spells. (canon_spells text job spells).0

pub returns-clause-shortest : goal.returns-clause-shortest
returns-clause-shortest c = λ text job spells. (canon_spells text job spells).1
