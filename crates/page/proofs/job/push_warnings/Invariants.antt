use Rattle.std.proofs.Common.{◌≡◌, ◌++◌, length}
use Rattle.std.specs.Prelude.{map}
use Rattle.page.specs.Lines.{warnings_at}
use Rattle.page.specs.Views.{warned_held}
use Rattle.page.proofs.job.push_warnings.Given as goal

abbrev pub invariant-warned : goal.invariant-warned
invariant-warned l =
    l.out.items ++ warnings_at l.number (map warned_held l.rest) ≡ l.fn.out.items ++ warnings_at l.number (map warned_held l.warned)

abbrev pub decreases-warned : goal.decreases-warned
decreases-warned l = length l.rest
