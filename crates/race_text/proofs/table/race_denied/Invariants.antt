use Rattle.std.proofs.Common.{◌≡◌, ◌++◌, drop}
use Rattle.std.specs.Prelude.{map}
use Rattle.race_text.specs.Lines.{is_shown}
use Rattle.race_text.specs.Table.{lines_that, lines_text}
use Rattle.race_text.specs.LineViews.{line_held}
use Rattle.race_text.proofs.table.race_denied.Given as goal

abbrev pub invariant-lines : goal.invariant-lines
invariant-lines l =
    l.out.items ++ lines_text l.widths (lines_that is_shown (map line_held (drop l.line-index l.lines)))
    ≡ lines_text l.widths (lines_that is_shown (map line_held l.lines))
