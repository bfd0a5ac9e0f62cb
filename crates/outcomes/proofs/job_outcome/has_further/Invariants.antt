use Rattle.std.proofs.Common.{◌≡◌, drop}
use Rattle.outcomes.specs.JobOutcomes.{has_further}
use Rattle.outcomes.proofs.job_outcome.has_further.Given as goal

abbrev pub invariant-labels : goal.invariant-labels
invariant-labels l = has_further (drop l.label-index l.labels) l.others ≡ has_further l.labels l.others
