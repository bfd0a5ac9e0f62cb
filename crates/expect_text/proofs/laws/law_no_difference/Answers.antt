use Rattle.expect_text.proofs.Same.{no_difference}
use Rattle.expect_text.proofs.laws.law_no_difference.Goals as goal

pub returns : goal.returns
returns c = no_difference
