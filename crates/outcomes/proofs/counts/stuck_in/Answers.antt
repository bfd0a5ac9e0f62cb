use Rattle.std.proofs.Common.{rules}
use Rattle.outcomes.specs.JobOutcomes.{is_stuck}
use Rattle.outcomes.proofs.Counted.{counted}
use Rattle.outcomes.proofs.counts.stuck_in.Goals as goal

pub returns : goal.returns
returns c = rw (counted (λ l. is_stuck l.job_outcome) c.args.lines.now) (search rules)
