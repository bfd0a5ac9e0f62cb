use Rattle.std.proofs.Common.{arith}
use Rattle.outcomes.proofs.SweepWidest.{at_least}
use Rattle.outcomes.proofs.sweep_lines.width_of.Goals as goal

pub groups-init : goal.groups-init
groups-init c = record { rest = at_least _; low = omega arith }
