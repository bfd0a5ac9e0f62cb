use Rattle.std.proofs.Common.{◌≡◌, ◌≤◌, ◌+◌, drop}
use Rattle.job_edits.specs.WrittenOut.{steps_before}
use Rattle.job_edits.proofs.writing_out.steps_before.Given as goal

abbrev pub invariant-steps : goal.invariant-steps
invariant-steps l = record {
  bounded : l.count ≤ l.step-index;
  same : l.count + steps_before l.place (drop l.step-index l.steps) ≡ steps_before l.place l.steps;
}
