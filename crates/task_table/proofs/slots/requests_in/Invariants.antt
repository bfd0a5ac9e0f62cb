use Rattle.std.proofs.Common.{◌≡◌, ◌++◌, drop}
use Rattle.task_table.specs.Slots.{values_in}
use Rattle.task_table.specs.Entries.{requests_of}
use Rattle.task_table.proofs.slots.requests_in.Given as goal

abbrev pub invariant-slots : goal.invariant-slots
invariant-slots l = requests_of (values_in l.slots) ≡ l.requests.items ++ requests_of (values_in (drop l.slot-index l.slots))
