use Rattle.std.proofs.Common.{◌≡◌, ◌++◌}
use Rattle.trio_text.specs.Lines.{margin}
use Rattle.trio_text.proofs.pieces.begin.Given as goal

abbrev pub invariant-levels : goal.invariant-levels
invariant-levels l = l.out.items ≡ l.fn.out.items ++ margin l.n
