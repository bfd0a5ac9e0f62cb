use Rattle.std.proofs.Common.{◌≡◌, ◌≤◌, ◌-◌, length}
use Rattle.race_text.specs.RowViews.{kept_from}
use Rattle.race_text.proofs.same.next_kept.Given as goal

abbrev pub invariant-entries : goal.invariant-entries
invariant-entries l = record {
  within : l.at ≤ length l.entries;
  kept : kept_from l.scope l.entries l.at ≡ kept_from l.scope l.entries l.from;
}

abbrev pub decreases-entries : goal.decreases-entries
decreases-entries l = length l.entries - l.at
