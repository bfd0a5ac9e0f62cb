use Rattle.std.proofs.Common.{◌≡◌, ◌++◌, drop}
use Rattle.job_edits.specs.FinerTicks.{shifted_all, shifted_changes}
use Rattle.job_edits.proofs.shift.shifted_changes.Given as goal

abbrev pub invariant-sites : goal.invariant-sites
invariant-sites l =
    l.changes.items ++ shifted_all l.finer_ticks l.scope l.shift (drop l.site-index l.sites)
    ≡ shifted_changes l.fn.clock l.finer_ticks l.scope l.shift l.sites
