use Rattle.std.proofs.Common.{◌≡◌, map, drop}
use Rattle.chart.specs.HeldBars.{bar_of}
use Rattle.svg.specs.Arrows.{own_of}
use Rattle.svg.proofs.culprits.canceller_of.Given as goal

abbrev pub invariant-bars : goal.invariant-bars
invariant-bars l = own_of (map bar_of (drop l.bar-index l.bars)) l.task ≡ own_of (map bar_of l.bars) l.task
