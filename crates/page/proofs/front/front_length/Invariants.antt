use Rattle.std.proofs.Common.{◌≡◌, ◌≤◌, ◌+◌, length}
use Rattle.page.specs.Fronts.{front_length}
use Rattle.page.proofs.front.front_length.Given as goal

abbrev pub invariant-bytes : goal.invariant-bytes
invariant-bytes l =
    (length l.rest + front_length l.kind l.bytes ≡ length l.bytes + front_length l.kind l.rest) × (length l.rest ≤ length l.bytes)

abbrev pub decreases-bytes : goal.decreases-bytes
decreases-bytes l = length l.rest
