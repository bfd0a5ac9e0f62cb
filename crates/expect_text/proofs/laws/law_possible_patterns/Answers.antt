use Rattle.expect_text.proofs.Possible.{possible}
use Rattle.expect_text.proofs.laws.law_possible_patterns.Goals as goal

pub returns : goal.returns
returns c = possible
