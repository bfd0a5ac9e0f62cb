use Rattle.std.proofs.Common.{◌≡◌, []}
use Rattle.layer_tests.proofs.batches.batch_of_begins.Given as goal

abbrev pub invariant-keys : goal.invariant-keys
invariant-keys l = l.batch.current ≡ []
