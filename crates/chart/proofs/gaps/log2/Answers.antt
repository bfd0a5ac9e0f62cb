use Rattle.std.proofs.Common.{sym, arith}
use Rattle.chart.proofs.Halvings.{halved}
use Rattle.chart.proofs.gaps.log2.Goals as goal

pub returns-clause-value : goal.returns-clause-value
returns-clause-value c =
    let called = c.ilog2.ensures in
    sym (halved 64 c.ilog2.result c.args.n (omega (arith, called.bound)) called.power_le called.next_power_gt)
