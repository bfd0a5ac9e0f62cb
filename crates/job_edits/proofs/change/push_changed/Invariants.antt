use Rattle.std.proofs.Common.{◌≡◌, ◌++◌, drop}
use Rattle.job_edits.specs.Changes.{changed_from}
use Rattle.job_edits.proofs.change.push_changed.Given as goal

abbrev pub invariant-changes : goal.invariant-changes
invariant-changes l =
    l.out.items ++ changed_from l.at l.text (drop l.change-index l.changes) ≡ l.fn.out.items ++ changed_from l.from l.text l.changes
