use Rattle.std.proofs.Common.{rules}
use Rattle.outcomes.proofs.Counted.{counted}
use Rattle.outcomes.proofs.counts.cut_in.Goals as goal

pub returns : goal.returns
returns c = rw (counted (λ l. l.cuts) c.args.lines.now) (search rules)
