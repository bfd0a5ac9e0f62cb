use Rattle.std.proofs.Common.{◌+◌, ◌-◌, vec_len}
use Rattle.clock.specs.KeptSleepers.{SameSleepSlots}
use Rattle.clock.proofs.sleep_slots.grow_to_task.Given as goal

abbrev pub invariant-grow : goal.invariant-grow
invariant-grow l = SameSleepSlots l.initial.sleep_slots.items l.sleep_slots.items

abbrev pub decreases-grow : goal.decreases-grow
decreases-grow l = l.task + 1 - vec_len l.sleep_slots
