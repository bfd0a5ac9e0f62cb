use Rattle.std.proofs.Common.{◌≡◌, ◌++◌, drop}
use Rattle.job_edits.specs.Faults.{fails_of}
use Rattle.job_edits.proofs.fault.push_fails.Given as goal

abbrev pub invariant-names : goal.invariant-names
invariant-names l = l.faults.items ++ fails_of (drop l.name-index l.names) ≡ l.fn.faults.items ++ fails_of l.names
