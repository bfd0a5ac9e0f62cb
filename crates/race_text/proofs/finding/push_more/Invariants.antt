use Rattle.std.proofs.Common.{◌≡◌, ◌++◌, length}
use Rattle.std.specs.Prelude.{map}
use Rattle.race_text.specs.RowViews.{difference_held}
use Rattle.race_text.specs.Lines.{more_differences}
use Rattle.race_text.proofs.finding.push_more.Given as goal

abbrev pub invariant-tasks : goal.invariant-tasks
invariant-tasks l =
    l.out.items ++ more_differences l.room (map difference_held l.rest) ≡ l.fn.out.items ++ more_differences 2 (map difference_held l.tasks)

abbrev pub decreases-tasks : goal.decreases-tasks
decreases-tasks l = length l.rest
