use Rattle.std.proofs.Common.{◌≡◌, ◌≤◌, None}
use Rattle.input_lines.specs.Giving.{part_cut, cut_count, cuts_given}
use Rattle.input_lines.specs.Part.{buffer_of, range_of}
use Rattle.task_machine.specs.Tasks.{lent_of}
use Rattle.nursery_book.specs.Book.{HasNursery}
use Rattle.task_machine.specs.Started.{StartsOver}
use Rattle.task_machine.specs.States.{state_of}
use Rattle.task_machine.proofs.task.Task.start_over.Given as goal

abbrev pub invariant-copies : goal.invariant-copies
invariant-copies l =
    (l.i ≤ l.copies) × StartsOver (state_of l.self l.initial.world) (state_of l.self l.world) l.nursery l.name l.copies l.body l.i
    × HasNursery l.world.book l.nursery (λ n. n.body ≡ None)
    × (l.world ≡ record l.initial.world { book = l.world.book; started = l.world.started })
    × ((buffer_of (part_cut l.cuts) ≡ buffer_of l.self.part) × (range_of (part_cut l.cuts) ≡ (lent_of l.self).range))
    × (cut_count l.cuts ≡ l.copies)
    × (cuts_given l.cuts ≡ l.i)
