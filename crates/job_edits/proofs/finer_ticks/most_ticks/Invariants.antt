use Rattle.std.proofs.Common.{◌≡◌, ◌≤◌, drop, length}
use Rattle.job_edits.specs.FinerTicks.{most_ticks}
use Rattle.job_edits.proofs.finer_ticks.most_ticks.Given as goal

abbrev pub invariant-sites : goal.invariant-sites
invariant-sites l = record {
  within : l.left ≤ length l.sites;
  most : l.most ≡ most_ticks (drop l.left l.sites);
}

abbrev pub decreases-sites : goal.decreases-sites
decreases-sites l = l.left
