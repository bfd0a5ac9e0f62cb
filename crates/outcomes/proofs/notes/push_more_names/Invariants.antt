use Rattle.std.proofs.Common.{◌≡◌, ◌++◌, length}
use Rattle.outcomes.specs.JobOutcomes.{more_names}
use Rattle.outcomes.proofs.notes.push_more_names.Given as goal

abbrev pub invariant-names : goal.invariant-names
invariant-names l = l.out.items ++ more_names l.left l.rest ≡ l.fn.out.items ++ more_names l.most l.labels

abbrev pub decreases-names : goal.decreases-names
decreases-names l = length l.rest
