use Rattle.std.proofs.Common.{◌≡◌, Some, length}
use Rattle.expect_text.specs.Expectations.{no_kind, with_kinds}
use Rattle.expect_text.specs.Lines.{parts_of}
use Rattle.expect_text.proofs.expectations.kinds_in.Given as goal

abbrev pub invariant-parts : goal.invariant-parts
invariant-parts l = with_kinds (Some l.kinds) (parts_of 44 l.left) ≡ with_kinds (Some no_kind) (parts_of 44 l.list)

abbrev pub decreases-parts : goal.decreases-parts
decreases-parts l = length l.left
