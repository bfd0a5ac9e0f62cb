use Rattle.std.proofs.Common.{◌≡◌, length}
use Rattle.layer_tests.proofs.batches.answers_to.Given as goal

abbrev pub invariant-requests : goal.invariant-requests
invariant-requests l = length l.answers.items ≡ l.request-index
