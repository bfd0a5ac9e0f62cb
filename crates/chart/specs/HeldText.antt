-- The rows of the code, as the definitions see them.
use Rattle.std.specs.Prelude.{ℕ, List, [], ◌∷◌}
use Rattle.chart.specs.Marks as marks
use Rattle.chart.specs.declared.numbers.NumberRows.{NumberRows}
use Rattle.chart.specs.declared.row.Row.{Row}
use Rattle.chart.specs.declared.row.Strokes.{Strokes}

abbrev pub strokes_held : Strokes → marks.Strokes
strokes_held s = record { start = s.start; line = s.line; end = s.end }

abbrev pub row_held : Row → marks.Row
row_held row =
    record {
      strokes = strokes_held row.strokes;
      start = row.start;
      end = row.end;
      closed = row.closed;
      crosses = row.crosses.items;
      dots = row.dots.items;
      pluses = row.pluses.items;
    }

abbrev pub rows_held : NumberRows → List (List ℕ)
rows_held rows = rows.first.items ∷ rows.second.items ∷ rows.third.items ∷ rows.fourth.items ∷ []
