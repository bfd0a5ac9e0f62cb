use Rattle.std.proofs.Common.{◌≡◌, ◌≤◌, drop, length}
use Rattle.std.specs.Prelude.{map, reverse}
use Rattle.outcomes.specs.Groups.{groups_of}
use Rattle.outcomes.specs.SweepViews.{group_held, value_held}
use Rattle.outcomes.proofs.groups.groups_of.Given as goal

abbrev pub invariant-values : goal.invariant-values
invariant-values l = record {
  within : l.left ≤ length l.values;
  found : map group_held (reverse l.groups.items) ≡ groups_of l.limit (map value_held (drop l.left l.values));
}

abbrev pub decreases-values : goal.decreases-values
decreases-values l = l.left
