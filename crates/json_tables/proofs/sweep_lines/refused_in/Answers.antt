use Rattle.std.proofs.Common.{rules}
use Rattle.outcomes.specs.JobOutcomes.{is_refused}
use Rattle.outcomes.proofs.SweepCounted.{counted}
use Rattle.json_tables.proofs.sweep_lines.refused_in.Goals as goal

pub returns : goal.returns
returns c = rw (counted is_refused c.args.values.now) (search rules)
