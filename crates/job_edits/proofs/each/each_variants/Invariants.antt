use Rattle.std.proofs.Common.{◌≡◌, ◌++◌, ◌≤◌, length, take, drop}
use Rattle.job_edits.specs.Faults.{each_of, each_in}
use Rattle.job_edits.proofs.each.each_variants.Given as goal

abbrev pub invariant-steps : goal.invariant-steps
invariant-steps l =
    (take l.most (l.variants.items ++ each_of l.has_input l.names l.blocks.items (drop l.step-index l.step-items)) ≡ take l.most (each_in l.has_input l.names l.tokens))
    × (length l.variants.items ≤ l.most)
