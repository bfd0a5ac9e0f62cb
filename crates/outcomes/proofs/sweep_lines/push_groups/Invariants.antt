use Rattle.std.proofs.Common.{◌≡◌, ◌++◌, drop}
use Rattle.std.specs.Prelude.{map}
use Rattle.outcomes.specs.Sweeps.{groups_text}
use Rattle.outcomes.specs.SweepViews.{group_held}
use Rattle.outcomes.proofs.sweep_lines.push_groups.Given as goal

abbrev pub invariant-groups : goal.invariant-groups
invariant-groups l =
    l.out.items ++ groups_text l.width (map group_held (drop l.group-index l.groups))
    ≡ l.fn.out.items ++ groups_text l.width (map group_held l.groups)
