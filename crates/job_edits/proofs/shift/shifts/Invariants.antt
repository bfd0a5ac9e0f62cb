use Rattle.std.proofs.Common.{◌≡◌, ◌++◌, drop}
use Rattle.job_edits.specs.FinerTicks.{shifts_of}
use Rattle.job_edits.proofs.shift.shifts.Given as goal

abbrev pub invariant-sites : goal.invariant-sites
invariant-sites l = l.shifts.items ++ shifts_of (drop l.site-index l.sites) ≡ shifts_of l.sites
