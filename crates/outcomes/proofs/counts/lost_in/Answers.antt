use Rattle.std.proofs.Common.{rules}
use Rattle.outcomes.specs.JobOutcomes.{has_lost}
use Rattle.outcomes.proofs.Counted.{counted}
use Rattle.outcomes.proofs.counts.lost_in.Goals as goal

pub returns : goal.returns
returns c = rw (counted (λ l. has_lost l.job_outcome) c.args.lines.now) (search rules)
