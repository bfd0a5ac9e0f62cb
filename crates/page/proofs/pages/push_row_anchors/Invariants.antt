use Rattle.std.proofs.Common.{◌≡◌, ◌++◌, length}
use Rattle.std.specs.Prelude.{map}
use Rattle.page.specs.Pages.{row_anchors}
use Rattle.page.specs.Views.{row_held}
use Rattle.page.proofs.pages.push_row_anchors.Given as goal

abbrev pub invariant-rows : goal.invariant-rows
invariant-rows l = l.out.items ++ row_anchors (map row_held l.rest) ≡ l.fn.out.items ++ row_anchors (map row_held l.rows)

abbrev pub decreases-rows : goal.decreases-rows
decreases-rows l = length l.rest
