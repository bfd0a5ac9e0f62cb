use Rattle.std.proofs.Common.{◌≡◌, ◌+◌, ◌≤◌, drop}
use Rattle.basics.specs.Places.{line_from}
use Rattle.basics.proofs.places.line_of.Given as goal

abbrev pub invariant-bytes : goal.invariant-bytes
invariant-bytes l = (line_from l.line (drop l.b-index l.front) ≡ line_from 1 l.front) × (1 ≤ l.line) × (l.line ≤ l.b-index + 1)
