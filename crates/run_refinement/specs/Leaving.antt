-- The end of a task is recorded: in its nursery, if it has one, and what is left of it is kept.
use Rattle.std.specs.Prelude.{◌≡◌, ◌≢◌, ℕ, Option, Some, None}
use Rattle.exceptions.specs.Exceptions.{Exc}
use Rattle.nursery_book.specs.Nursery.{with_child}
use Rattle.nursery_book.specs.Book.{Changes}
use Rattle.nursery_book.specs.declared.book.NurseryBook.{NurseryBook}
use Rattle.job_meaning.specs.Moments.{tick_of}
use Rattle.job_meaning.specs.Rest as rest
use Rattle.task_machine.specs.declared.task.Home.{Home}
use Rattle.task_machine.specs.declared.task.Task.{Task}
use Rattle.interleavings.specs.Interleaving.{Started}
use Rattle.run_refinement.specs.RunState.{RunState}
use Rattle.run_refinement.specs.Moved.{SameObjects}

-- the child's index in its nursery has its end, in this moment; the root has no nursery
abbrev pub EndIsRecorded : ℕ → NurseryBook → NurseryBook → Option Home → Option Exc → Type 0
EndIsRecorded t old new None exc = new ≡ old
EndIsRecorded t old new (Some home) exc = Changes old new home.nursery (with_child home.index exc t)

-- The task with this serial number has ended in this moment, with this exception or none. All other tasks
-- stay.
pub record Leaving (t s : ℕ) (old new : RunState) (q : Started) (task : Task) (exc : Option Exc) : Type 0 where
  pub was : old.task s ≡ Some task
  pub ended : q.rest.stopped ≡ rest.at_end t exc
  pub world : new.world ≡ record old.world { book = new.world.book }
  pub turns : new.turns ≡ old.turns
  pub recorded : EndIsRecorded t old.world.book new.world.book task.home exc
  pub left : new.task s ≡ None
  pub kept : new.ended_task s ≡ Some (record {
    label = task.label;
    end = tick_of old.world.clock t;
    exc = exc;
    entries =
        task.entries.items;
    cancelled_from = task.cancelled_from.items;
  })
  pub others : (p : ℕ) → p ≢ s → (new.task p ≡ old.task p) × (new.ended_task p ≡ old.ended_task p)
  pub start : (p : ℕ) → new.start p ≡ old.start p
  pub children : (p : ℕ) → new.children p ≡ old.children p
  pub path : (p : ℕ) → new.path p ≡ old.path p
  pub objects : SameObjects old new
