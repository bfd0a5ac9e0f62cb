use Rattle.std.proofs.Common.{◌≡◌, ◌≤◌, drop, max}
use Rattle.std.specs.Prelude.{map}
use Rattle.outcomes.specs.Table.{greatest_length, place_text, step_text, kind_text}
use Rattle.outcomes.specs.Views.{line_held}
use Rattle.outcomes.proofs.columns.widths_of.Given as goal

abbrev pub invariant-lines : goal.invariant-lines
invariant-lines l =
    (max l.widths.place (greatest_length place_text 0 (map line_held (drop l.line-index l.lines))) ≡ greatest_length place_text 0 (map line_held l.lines))
    × (max l.widths.step (greatest_length step_text 0 (map line_held (drop l.line-index l.lines))) ≡ greatest_length step_text 0 (map line_held l.lines))
    × (max l.widths.fault (greatest_length kind_text 8 (map line_held (drop l.line-index l.lines))) ≡ greatest_length kind_text 8 (map line_held l.lines))
    × (8 ≤ l.widths.fault)
