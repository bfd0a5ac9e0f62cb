use Rattle.std.proofs.Common.{rules}
use Rattle.outcomes.specs.JobOutcomes.{is_stuck}
use Rattle.outcomes.proofs.SweepCounted.{counted}
use Rattle.outcomes.proofs.sweep_counts.stuck_in.Goals as goal

pub returns : goal.returns
returns c = rw (counted is_stuck c.args.values.now) (search rules)
