use Rattle.std.proofs.Common.{◌≡◌, ◌+◌, length}
use Rattle.commands.specs.Formats.{difference_from}
use Rattle.commands.proofs.difference.difference.Given as goal

abbrev pub invariant-bytes : goal.invariant-bytes
invariant-bytes l = (difference_from l.place l.left l.right ≡ difference_from 0 l.fn.one l.fn.other) × (l.place + length l.left ≡ length l.fn.one)

abbrev pub decreases-bytes : goal.decreases-bytes
decreases-bytes l = length l.left
