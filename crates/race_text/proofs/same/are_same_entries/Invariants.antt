use Rattle.std.proofs.Common.{◌≡◌, ◌≤◌, length}
use Rattle.std.specs.Prelude.{map}
use Rattle.task_machine.specs.Noted.{entry_of}
use Rattle.race_text.specs.Same.{same_entries, kept_entries}
use Rattle.race_text.specs.RowViews.{kept_from}
use Rattle.race_text.proofs.same.are_same_entries.Given as goal

abbrev pub invariant-entries : goal.invariant-entries
invariant-entries l = record {
  within : l.next ≤ length l.b;
  same : same_entries (kept_from l.scope l.a l.entry-index) (kept_from l.scope l.b l.next)
      ≡ same_entries (kept_entries l.scope (map entry_of l.a)) (kept_entries l.scope (map entry_of l.b));
}
