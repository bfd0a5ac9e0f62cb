use Rattle.std.proofs.Common.{◌≡◌, ◌+◌, ◌≤◌, drop}
use Rattle.basics.specs.Places.{line_from, column_from}
use Rattle.refusal_text.proofs.position.counted_on.Given as goal

abbrev pub invariant-bytes : goal.invariant-bytes
invariant-bytes l =
    (line_from l.line (drop l.b-index l.passed) ≡ line_from l.first_line l.passed)
    × (column_from l.column (drop l.b-index l.passed) ≡ column_from l.first_column l.passed)
    × (l.line ≤ l.first_line + l.b-index)
    × (l.column ≤ l.first_column + l.b-index)
