use Rattle.std.proofs.Common.{◌≡◌, drop}
use Rattle.chart.specs.Marks.{has}
use Rattle.chart.proofs.cells.has.Given as goal

abbrev pub invariant-ticks : goal.invariant-ticks
invariant-ticks l = has l.tick (drop l.other-index l.ticks) ≡ has l.tick l.ticks
