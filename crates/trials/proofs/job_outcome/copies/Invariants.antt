use Rattle.std.proofs.Common.{◌≡◌, ◌++◌, drop}
use Rattle.outcomes.specs.Labels.{labels_in}
use Rattle.trials.proofs.job_outcome.copies.Given as goal

abbrev pub invariant-labels : goal.invariant-labels
invariant-labels l = l.copies.items ++ labels_in (drop l.label-index l.labels) ≡ labels_in l.labels
