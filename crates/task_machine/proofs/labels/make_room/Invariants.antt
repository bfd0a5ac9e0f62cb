use Rattle.std.proofs.Common.{◌≡◌, ℕ, ◌+◌, ◌-◌, vec_len}
use Rattle.task_machine.specs.Labels.{label_in}
use Rattle.task_machine.proofs.labels.make_room.Given as goal

abbrev pub invariant-places : goal.invariant-places
invariant-places l = (at : ℕ) → label_in l.labels.items at ≡ label_in l.fn.labels.items at

abbrev pub decreases-places : goal.decreases-places
decreases-places l = l.key + 1 - vec_len l.labels
