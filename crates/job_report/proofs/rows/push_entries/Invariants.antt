use Rattle.std.proofs.Common.{◌≡◌, ◌++◌, take}
use Rattle.std.specs.Prelude.{map}
use Rattle.std.specs.List.{flat_map}
use Rattle.task_machine.specs.Noted.{entry_of}
use Rattle.job_report.specs.Text.{shown_text}
use Rattle.job_report.proofs.rows.push_entries.Given as goal

abbrev pub invariant-entries : goal.invariant-entries
invariant-entries l = l.out.items ≡ l.fn.out.items ++ flat_map shown_text (map entry_of (take l.entry-index l.entries))
