use Rattle.std.proofs.Common.{◌≡◌, ◌++◌, drop}
use Rattle.std.specs.Prelude.{map}
use Rattle.outcomes.specs.Table.{first_denied, denied_lines}
use Rattle.outcomes.specs.Views.{job_outcome_held, line_held}
use Rattle.outcomes.proofs.lines.denied_text.Given as goal

abbrev pub invariant-lines : goal.invariant-lines
invariant-lines l =
    l.out.items ++ denied_lines l.limit l.deny l.widths (map line_held (drop l.line-index l.lines))
    ≡ first_denied l.limit l.deny l.widths (job_outcome_held l.first) ++ denied_lines l.limit l.deny l.widths (map line_held l.lines)
