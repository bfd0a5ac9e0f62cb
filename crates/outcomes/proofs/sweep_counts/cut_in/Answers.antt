use Rattle.std.proofs.Common.{rules}
use Rattle.outcomes.specs.JobOutcomes.{has_cut}
use Rattle.outcomes.proofs.SweepCounted.{counted}
use Rattle.outcomes.proofs.sweep_counts.cut_in.Goals as goal

pub returns : goal.returns
returns c = rw (counted has_cut c.args.values.now) (search rules)
