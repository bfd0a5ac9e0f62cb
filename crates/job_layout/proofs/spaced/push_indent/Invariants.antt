use Rattle.std.proofs.Common.{◌≡◌, ◌++◌}
use Rattle.job_layout.specs.Spaced.{indent}
use Rattle.job_layout.proofs.spaced.push_indent.Given as goal

abbrev pub invariant-levels : goal.invariant-levels
invariant-levels l = l.out.items ++ indent l.left ≡ l.fn.out.items ++ indent l.fn.level

abbrev pub decreases-levels : goal.decreases-levels
decreases-levels l = l.left
