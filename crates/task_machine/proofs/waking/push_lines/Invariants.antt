use Rattle.std.proofs.Common.{◌≡◌, ◌++◌, take}
use Rattle.std.specs.Prelude.{map}
use Rattle.task_machine.specs.declared.entry.Entry.TheVariants.{Line}
use Rattle.task_machine.proofs.waking.push_lines.Given as goal

abbrev pub invariant-lines : goal.invariant-lines
invariant-lines l = l.entries.items ≡ l.fn.entries.items ++ map Line (take l.line-index l.lines)
