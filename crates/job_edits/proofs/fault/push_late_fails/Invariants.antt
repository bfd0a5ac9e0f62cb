use Rattle.std.proofs.Common.{◌≡◌, ◌++◌, drop}
use Rattle.job_edits.specs.Faults.{late_fails_of}
use Rattle.job_edits.proofs.fault.push_late_fails.Given as goal

abbrev pub invariant-names : goal.invariant-names
invariant-names l = l.faults.items ++ late_fails_of (drop l.name-index l.names) ≡ l.fn.faults.items ++ late_fails_of l.names
