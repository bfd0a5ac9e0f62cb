use Rattle.std.proofs.Common.{rules}
use Rattle.outcomes.specs.Table.{is_unreached}
use Rattle.outcomes.proofs.Counted.{counted}
use Rattle.outcomes.proofs.counts.unreached_in.Goals as goal

pub returns : goal.returns
returns c = rw (counted is_unreached c.args.lines.now) (search rules)
