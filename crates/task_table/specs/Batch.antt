-- What clauses state about the ready tasks: the current batch and the next one.
use Rattle.std.specs.Prelude.{◌≡◌, ℕ, ◌+◌, ◌≤◌, Option, Some, List, length, map, slice_get}
use Rattle.std.specs.List.{remove}
use Rattle.task_machine.specs.declared.stop.Wake.{Wake}
use Rattle.task_table.specs.declared.entry.Entry.{Entry}
use Rattle.task_table.specs.Slots.{values_in, places_from}
use Rattle.task_table.specs.Places.{PlacesLeft}
use Rattle.task_table.specs.Entries.{Added, added_of, without_answer, wake_of}

-- the entries of the current batch that are left, in order, and what was added to the next one, in order
pub record Batches : Type 0 where
  pub current : List Entry
  pub next : List Added

-- slots that hold what was added, with no answer placed
abbrev pub unplaced_slots : List Added → List (Option Entry)
unplaced_slots added = map (λ a. Some (without_answer a)) added

-- what was added, as slots hold it
abbrev pub added_in : List (Option Entry) → List Added
added_in slots = map added_of (values_in slots)

-- the places of the current batch are those left, no answer is placed in the next one, and there is space for its places
pub record IsReady (current next : List (Option Entry)) (places : PlacesLeft) : Type 0 where
  pub left : places.left ≡ places_from 0 current
  pub fresh : next ≡ unplaced_slots (added_in next)
  pub room : length next + length next ≤ places.room

-- One task had its turn: the picker picked a place among those left, and the task of the entry there continues as its
-- call and its answer determine. The others stay, in their order, and so does what was added.
pub record HandsOut {P : Type 0} (picks : P → ℕ → ℕ → P → Type 0) (old new : Batches) (picker picker' : P) (task : ℕ) (wake : Wake) : Type 0
  where
    pub place : ℕ
    pub picked : picks picker (length old.current) place picker'
    pub entry : Entry
    pub at_place : slice_get old.current place ≡ Some entry
    pub its_task : task ≡ entry.task
    pub its_wake : wake_of entry.call entry.answer ≡ Some wake
    pub rest : new.current ≡ remove old.current place
    pub added : new.next ≡ old.next
