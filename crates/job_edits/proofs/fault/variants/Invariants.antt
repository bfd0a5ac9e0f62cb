use Rattle.std.proofs.Common.{◌≡◌, ◌++◌, drop}
use Rattle.job_edits.specs.Faults.{variants_of, variants_in}
use Rattle.job_edits.proofs.fault.variants.Given as goal

abbrev pub invariant-steps : goal.invariant-steps
invariant-steps l = l.variants.items ++ variants_of l.names (drop l.step-index l.step-items) ≡ variants_in l.names l.tokens
