use Rattle.std.proofs.Common.{rules}
use Rattle.outcomes.specs.JobOutcomes.{is_refused}
use Rattle.outcomes.proofs.Counted.{counted}
use Rattle.outcomes.proofs.counts.refused_in.Goals as goal

pub returns : goal.returns
returns c = rw (counted (λ l. is_refused l.job_outcome) c.args.lines.now) (search rules)
