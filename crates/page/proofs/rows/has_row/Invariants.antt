use Rattle.std.proofs.Common.{◌≡◌, length}
use Rattle.std.specs.Prelude.{map}
use Rattle.page.specs.Links.{has_row}
use Rattle.page.specs.Views.{row_held}
use Rattle.page.proofs.rows.has_row.Given as goal

abbrev pub invariant-rows : goal.invariant-rows
invariant-rows l = has_row (map row_held l.rest) l.label ≡ has_row (map row_held l.rows) l.label

abbrev pub decreases-rows : goal.decreases-rows
decreases-rows l = length l.rest
