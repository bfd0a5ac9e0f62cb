-- Which tasks wait for the nurseries that are in the book after a move, and what a turn leaves as it was.
use Rattle.std.specs.Prelude.{◌≡◌, ◌⊎◌, ℕ, Some}
use Rattle.exceptions.specs.Exceptions.{Label}
use Rattle.nursery_book.specs.Book.{nursery_at, HasNursery}
use Rattle.nursery_book.specs.Nursery.{Nursery}
use Rattle.nursery_book.specs.declared.book.NurseryBook.{NurseryBook}
use Rattle.task_machine.specs.declared.task.Task.{Task}
use Rattle.task_machine.specs.declared.world.World.{World}
use Rattle.task_machine.specs.Waking.{IsInRangeTaskState}

-- a nursery with this waiter and this label was there before
abbrev pub HadNursery : NurseryBook → ℕ → ℕ → Label → Type 0
HadNursery old id waiter label = HasNursery old id (λ n. (n.waiter ≡ waiter) × (n.label ≡ label))

-- no nursery was opened, and each keeps its waiter and its label
abbrev pub SameWaiters : NurseryBook → NurseryBook → Type 0
SameWaiters old new = (id : ℕ) (n : Nursery) → nursery_at new id ≡ Some n → HadNursery old id n.waiter n.label

-- Each nursery that was opened has this task as its waiter, and every other one keeps its own. An id that was used before belongs
-- to a nursery that was opened if its label is another one.
abbrev pub OpenedBy : ℕ → NurseryBook → NurseryBook → Type 0
OpenedBy me old new =
    (id : ℕ) (n : Nursery) → nursery_at new id ≡ Some n → (n.waiter ≡ me) ⊎ HadNursery old id n.waiter n.label

-- What a turn leaves as it was. The task keeps its label, its part and its home, and is in range again; the world keeps its clock and its
-- moment;
-- and each nursery that was opened has the task as its waiter.
pub record KeepsRest (me : ℕ) (before after : Task) (old new : World) : Type 0 where
  pub task :
      after ≡ record before {
        frames = after.frames;
        own = after.own;
        task_state = after.task_state;
        entries = after.entries;
        cancelled_from = after.cancelled_from;
        cancelled = after.cancelled;
      }
  pub world :
      new ≡ record old {
        scopes = new.scopes;
        labels = new.labels;
        events = new.events;
        set = new.set;
        acts = new.acts;
        book = new.book;
        started = new.started;
      }
  pub in_range : IsInRangeTaskState after.task_state
  pub waiters : OpenedBy me old.book new.book
