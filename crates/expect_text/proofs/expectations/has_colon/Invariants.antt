use Rattle.std.proofs.Common.{◌≡◌, drop}
use Rattle.expect_text.specs.Expectations.{has_colon}
use Rattle.expect_text.proofs.expectations.has_colon.Given as goal

abbrev pub invariant-bytes : goal.invariant-bytes
invariant-bytes l = has_colon (drop l.byte-index l.text) ≡ has_colon l.text
