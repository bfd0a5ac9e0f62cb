use Rattle.std.proofs.Common.{◌+◌, ◌-◌, vec_len}
use Rattle.clock.specs.KeptSleepers.{SameTasks}
use Rattle.clock.proofs.sleep_slots.grow_to_scope.Given as goal

abbrev pub invariant-grow : goal.invariant-grow
invariant-grow l = SameTasks l.initial.lists.items l.lists.items

abbrev pub decreases-grow : goal.decreases-grow
decreases-grow l = l.scope + 1 - vec_len l.lists
