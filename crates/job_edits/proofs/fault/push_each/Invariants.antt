use Rattle.std.proofs.Common.{◌≡◌, ◌++◌, None, drop}
use Rattle.job_edits.specs.Faults.{variants_with}
use Rattle.job_edits.proofs.fault.push_each.Given as goal

abbrev pub invariant-faults : goal.invariant-faults
invariant-faults l =
    l.variants.items ++ variants_with None l.step (drop l.fault-index l.faults) ≡ l.fn.variants.items ++ variants_with None l.step l.faults
