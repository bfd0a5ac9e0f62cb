use Rattle.std.proofs.Common.{◌≡◌, ◌++◌, ◌≤◌, ◌-◌, length, take}
use Rattle.job_edits.specs.Faults.{each_from}
use Rattle.job_edits.proofs.each.push_in_block.Given as goal

abbrev pub invariant-parts : goal.invariant-parts
invariant-parts l =
    (take l.most (l.variants.items ++ each_from l.number l.block l.faulty.step.now l.faulty.faults.now (l.count - l.index) l.index)
    ≡ take l.most (l.fn.variants.items ++ each_from l.number l.block l.faulty.step.now l.faulty.faults.now l.block.number.value 0))
    × (length l.variants.items ≤ l.most) × (l.index ≤ l.count)

abbrev pub decreases-parts : goal.decreases-parts
decreases-parts l = l.count - l.index
