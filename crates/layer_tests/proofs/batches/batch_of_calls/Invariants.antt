use Rattle.std.proofs.Common.{◌≡◌, []}
use Rattle.layer_tests.proofs.batches.batch_of_calls.Given as goal

abbrev pub invariant-calls : goal.invariant-calls
invariant-calls l = l.batch.current ≡ []
