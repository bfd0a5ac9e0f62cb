use Rattle.std.proofs.Common.{◌≡◌, ◌++◌, drop}
use Rattle.std.specs.Prelude.{map}
use Rattle.outcomes.specs.Table.{printed, lines_text}
use Rattle.outcomes.specs.Views.{line_held}
use Rattle.outcomes.proofs.lines.push_lines.Given as goal

abbrev pub invariant-lines : goal.invariant-lines
invariant-lines l =
    l.out.items ++ lines_text l.limit l.widths (printed l.brief (map line_held (drop l.line-index l.lines)))
    ≡ l.fn.out.items ++ lines_text l.limit l.widths (printed l.brief (map line_held l.lines))
