use Rattle.std.proofs.Common.{◌≡◌, ◌++◌, drop}
use Rattle.std.specs.Prelude.{map}
use Rattle.serde_json.specs.View.{view}
use Rattle.race_text.specs.Lines.{is_shown}
use Rattle.race_text.specs.Table.{lines_that}
use Rattle.race_text.specs.LineViews.{line_held}
use Rattle.json_tables.specs.Races.{race_line_json}
use Rattle.json_tables.proofs.race_lines.line_values.Given as goal

abbrev pub invariant-lines : goal.invariant-lines
invariant-lines l =
    map view l.values.items ++ map race_line_json (lines_that is_shown (map line_held (drop l.line-index l.lines)))
    ≡ map race_line_json (lines_that is_shown (map line_held l.lines))
