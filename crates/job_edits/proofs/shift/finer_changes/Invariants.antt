use Rattle.std.proofs.Common.{◌≡◌, ◌++◌, drop}
use Rattle.job_edits.specs.FinerTicks.{finer_changes_in, finer_changes}
use Rattle.job_edits.proofs.shift.finer_changes.Given as goal

abbrev pub invariant-sites : goal.invariant-sites
invariant-sites l = l.changes.items ++ finer_changes_in l.finer_ticks (drop l.site-index l.sites) ≡ finer_changes l.fn.clock l.finer_ticks l.sites
