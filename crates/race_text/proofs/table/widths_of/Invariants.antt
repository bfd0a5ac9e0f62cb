use Rattle.std.proofs.Common.{◌≡◌, drop, max}
use Rattle.std.specs.Prelude.{map}
use Rattle.race_text.specs.Lines.{is_shown}
use Rattle.race_text.specs.Table.{lines_that, width_of, place_text, step_text, hair_text}
use Rattle.race_text.specs.LineViews.{line_held}
use Rattle.race_text.proofs.table.widths_of.Given as goal

abbrev pub invariant-lines : goal.invariant-lines
invariant-lines l =
    (max l.widths.place (width_of place_text (lines_that is_shown (map line_held (drop l.line-index l.lines))))
    ≡ width_of place_text (lines_that is_shown (map line_held l.lines)))
    × (max l.widths.step (width_of step_text (lines_that is_shown (map line_held (drop l.line-index l.lines))))
    ≡ width_of step_text (lines_that is_shown (map line_held l.lines)))
    × (max l.widths.hair (width_of hair_text (lines_that is_shown (map line_held (drop l.line-index l.lines))))
    ≡ width_of hair_text (lines_that is_shown (map line_held l.lines)))
