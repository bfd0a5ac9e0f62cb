use Rattle.std.proofs.Common.{◌≡◌, ◌≤◌, drop, max}
use Rattle.std.specs.Prelude.{map}
use Rattle.outcomes.specs.Sweeps.{width_of}
use Rattle.outcomes.specs.SweepViews.{group_held}
use Rattle.outcomes.proofs.sweep_lines.width_of.Given as goal

abbrev pub invariant-groups : goal.invariant-groups
invariant-groups l = record {
  rest : max l.width (width_of (map group_held (drop l.group-index l.groups))) ≡ width_of (map group_held l.groups);
  low : 8 ≤ l.width;
}
