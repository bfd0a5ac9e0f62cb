use Rattle.std.proofs.Common.{◌≡◌, ◌+◌, ◌≤◌, drop}
use Rattle.basics.specs.Places.{column_from}
use Rattle.basics.proofs.places.column_of.Given as goal

abbrev pub invariant-bytes : goal.invariant-bytes
invariant-bytes l = (column_from l.column (drop l.b-index l.front) ≡ column_from 1 l.front) × (1 ≤ l.column) × (l.column ≤ l.b-index + 1)
