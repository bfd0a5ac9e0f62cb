use Rattle.std.proofs.Common.{◌≡◌, ◌≤◌, ◌+◌, ◌*◌, ◌++◌}
use Rattle.cli.specs.Values.{values_from}
use Rattle.cli.proofs.sweeping.values_from.Given as goal

abbrev pub invariant-values : goal.invariant-values
invariant-values l =
    (l.values.items ++ values_from l.value l.step l.left ≡ values_from l.first l.step l.count)
    × (l.value + 4294967296 * l.left ≤ 4294967296 * (l.count + 1))

abbrev pub decreases-values : goal.decreases-values
decreases-values l = l.left
