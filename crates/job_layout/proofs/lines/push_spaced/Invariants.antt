use Rattle.std.proofs.Common.{◌≡◌, ◌++◌, drop}
use Rattle.job_layout.specs.Spaced.{spaced_tokens}
use Rattle.job_layout.proofs.lines.push_spaced.Given as goal

abbrev pub invariant-shapes : goal.invariant-shapes
invariant-shapes l = l.line.items ++ spaced_tokens (drop l.shape-index l.fn.shapes) ≡ l.fn.line.items ++ spaced_tokens l.fn.shapes
