use Rattle.std.proofs.Common.{◌≡◌, ◌++◌, ◌≤◌, length, take, drop}
use Rattle.job_edits.specs.Faults.{each_in_blocks}
use Rattle.job_edits.proofs.each.push_in_blocks.Given as goal

abbrev pub invariant-blocks-2 : goal.invariant-blocks-2
invariant-blocks-2 l =
    (take l.most (l.variants.items ++ each_in_blocks l.has_input l.number (drop l.block-index l.blocks) l.faulty.step.now l.faulty.faults.now)
    ≡ take l.most (l.fn.variants.items ++ each_in_blocks l.has_input 0 l.blocks l.faulty.step.now l.faulty.faults.now))
    × (length l.variants.items ≤ l.most) × (l.number ≡ l.block-index)
