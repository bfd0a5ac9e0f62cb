use Rattle.std.proofs.Common.{◌≡◌, ◌≤◌, drop}
use Rattle.basics.specs.Places.{line_from}
use Rattle.page.proofs.cut.line_count.Given as goal

abbrev pub invariant-bytes : goal.invariant-bytes
invariant-bytes l = (line_from l.count (drop l.byte-index l.bytes) ≡ line_from 0 l.bytes) × (l.count ≤ l.byte-index)
