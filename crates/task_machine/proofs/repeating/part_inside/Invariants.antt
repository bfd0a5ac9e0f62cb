use Rattle.std.proofs.Common.{◌≡◌, take}
use Rattle.input_lines.specs.Part.{buffer_of, range_of}
use Rattle.task_machine.specs.Frames.{cuts_onto}
use Rattle.task_machine.proofs.repeating.part_inside.Given as goal

abbrev pub invariant-frames : goal.invariant-frames
invariant-frames l =
    (buffer_of l.inner ≡ buffer_of l.fn.part)
    × (range_of l.inner ≡ cuts_onto (buffer_of l.fn.part) (take l.frame-index l.frames) (range_of l.fn.part))
