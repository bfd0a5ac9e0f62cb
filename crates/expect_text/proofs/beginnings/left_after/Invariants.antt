use Rattle.std.proofs.Common.{◌≡◌, drop}
use Rattle.expect_text.specs.Beginnings.{left_after}
use Rattle.expect_text.proofs.beginnings.left_after.Given as goal

abbrev pub invariant-bytes : goal.invariant-bytes
invariant-bytes l = left_after (drop l.byte-index l.beginning) l.left ≡ left_after l.beginning l.pattern
