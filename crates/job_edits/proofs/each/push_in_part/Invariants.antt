use Rattle.std.proofs.Common.{◌≡◌, ◌++◌, ◌≤◌, Some, length, take, drop}
use Rattle.job_edits.specs.Faults.{variants_with}
use Rattle.job_edits.proofs.each.push_in_part.Given as goal

abbrev pub invariant-faults : goal.invariant-faults
invariant-faults l =
    (take l.most (l.variants.items ++ variants_with (Some l.part) l.faulty.step.now (drop l.fault-index l.faulty.faults.now))
    ≡ take l.most (l.fn.variants.items ++ variants_with (Some l.part) l.faulty.step.now l.faulty.faults.now))
    × (length l.variants.items ≤ l.most)
