use Rattle.feed_tests.proofs.TallyLemmas.{status_is}
use Rattle.feed_tests.specs.Tallies.{no_tests}
use Rattle.feed_tests.proofs.laws.law_status.Goals as goal

pub returns : goal.returns
returns c = λ outcomes. status_is outcomes no_tests
