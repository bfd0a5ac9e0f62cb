use Rattle.std.proofs.Common.{◌≡◌, ◌++◌}
use Rattle.std.specs.Prelude.{replicate}
use Rattle.chart.proofs.cells.push_times.Given as goal

abbrev pub invariant-times : goal.invariant-times
invariant-times l = l.out.items ≡ l.fn.out.items ++ replicate l._i l.byte
