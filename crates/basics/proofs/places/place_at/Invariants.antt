-- The counters are the line and the column of the place that the search has reached, and no place
-- before it is on the line and at the column.
use Rattle.std.proofs.Common.{◌≡◌, ℕ, ◌+◌, ◌<◌, ◌≤◌}
use Rattle.basics.specs.Places.{line_of, column_of, IsPlace}
use Rattle.basics.proofs.places.place_at.Given as goal

abbrev pub invariant-bytes : goal.invariant-bytes
invariant-bytes l =
    (line_of l.text l.at ≡ l.at_line)
    × (column_of l.text l.at ≡ l.at_column)
    × ((at : ℕ) → at < l.at → IsPlace l.text l.line l.column at → ⊥)
    × (l.at_line ≤ l.at + 1)
    × (l.at_column ≤ l.at + 1)
