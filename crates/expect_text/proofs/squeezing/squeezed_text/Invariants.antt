use Rattle.std.proofs.Common.{◌≡◌, ◌++◌, drop}
use Rattle.expect_text.specs.Patterns.{squeezed_text, squeezed_in}
use Rattle.expect_text.proofs.squeezing.squeezed_text.Given as goal

abbrev pub invariant-bytes : goal.invariant-bytes
invariant-bytes l = l.bytes.items ++ squeezed_in l.gap (drop l.b-index l.text) ≡ squeezed_text l.text
