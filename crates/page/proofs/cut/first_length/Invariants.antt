use Rattle.std.proofs.Common.{◌≡◌, ◌≤◌, ◌+◌, length}
use Rattle.page.specs.Cuts.{first_length}
use Rattle.page.proofs.cut.first_length.Given as goal

abbrev pub invariant-bytes : goal.invariant-bytes
invariant-bytes l =
    (length l.rest + first_length l.count l.bytes ≡ length l.bytes + first_length l.left l.rest) × (length l.rest ≤ length l.bytes)

abbrev pub decreases-bytes : goal.decreases-bytes
decreases-bytes l = length l.rest
