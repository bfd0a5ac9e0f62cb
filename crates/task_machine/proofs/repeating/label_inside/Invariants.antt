use Rattle.std.proofs.Common.{◌≡◌, take}
use Rattle.task_machine.specs.Frames.{passes_onto}
use Rattle.task_machine.proofs.repeating.label_inside.Given as goal

abbrev pub invariant-frames : goal.invariant-frames
invariant-frames l = l.inner ≡ record { name = l.fn.label.name; indices = passes_onto (take l.frame-index l.frames) l.fn.label.indices }
