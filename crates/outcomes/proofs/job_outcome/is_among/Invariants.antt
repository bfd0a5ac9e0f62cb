use Rattle.std.proofs.Common.{◌≡◌, drop}
use Rattle.job_story.specs.Focus.{is_among}
use Rattle.outcomes.proofs.job_outcome.is_among.Given as goal

abbrev pub invariant-labels : goal.invariant-labels
invariant-labels l = is_among l.label (drop l.other-index l.labels) ≡ is_among l.label l.labels
