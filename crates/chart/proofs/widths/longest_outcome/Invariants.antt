use Rattle.std.proofs.Common.{◌≡◌, ℕ, ◌≤◌, drop, length, map}
use Rattle.chart.specs.HeldBars.{bar_of}
use Rattle.chart.specs.Text.{longest_outcome}
use Rattle.chart.proofs.widths.longest_outcome.Given as goal

abbrev pub invariant-bars : goal.invariant-bars
invariant-bars l = record {
  within : l.left ≤ length l.bars;
  found : l.longest ≡ longest_outcome (map bar_of (drop l.left l.bars));
}

abbrev pub decreases-bars : goal.decreases-bars
decreases-bars l = l.left
