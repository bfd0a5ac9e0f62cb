use Rattle.std.proofs.Common.{◌≡◌, ℕ, ◌+◌, ◌-◌, vec_len}
use Rattle.task_machine.specs.Labels.{event_in}
use Rattle.task_machine.proofs.events.make_room.Given as goal

abbrev pub invariant-places : goal.invariant-places
invariant-places l = (at : ℕ) → event_in l.events.items at ≡ event_in l.fn.events.items at

abbrev pub decreases-places : goal.decreases-places
decreases-places l = l.key + 1 - vec_len l.events
