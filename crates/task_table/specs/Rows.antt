-- What is kept of tasks, row by row, and the records of the rows.
use Rattle.std.specs.Prelude.{◌≡◌, ◌<◌, ◌≤◌, ◌==◌, ℕ, Option, Some, None, List, [], ◌∷◌, map, length, All, slice_get, slice_set}
use Rattle.std.specs.List.{sum_by, count_by}
use Rattle.std.specs.Option.{option_map}
use Rattle.exceptions.specs.Held.{exc_of}
use Rattle.job_meaning.specs.Shown.{as_shown, row_of, ending_of}
use Rattle.interleavings.specs.Rows as interleaving
use Rattle.task_table.specs.declared.record.Record.{Record}
use Rattle.task_machine.specs.declared.entry.ScopeFrom.{ScopeFrom}
use Rattle.task_machine.specs.Noted.{entry_of, IsSlice, from_of}
use Rattle.task_machine.specs.Frames.{unboxed_exc}
use Rattle.task_table.specs.Records.{AreSlices, row_in, ending_in}
use Rattle.task_table.specs.declared.rows.TaskRow.{TaskRow}
use Rattle.task_table.specs.declared.rows.Ended.{Ended}

-- ---- what rows show

-- what is kept of an end shows the end of a row of the definitions, over this input
pub record ShowsEnd (input : List ℕ) (row : interleaving.Row) (ended : Ended) : Type 0 where
  pub label : ended.label ≡ row.label
  pub tick : ended.tick ≡ row.end
  pub exc : option_map exc_of (unboxed_exc ended.exc) ≡ row.exc
  pub entries : map entry_of ended.entries.items ≡ map (as_shown input) row.entries
  pub slices : All (IsSlice input) ended.entries.items
  pub cancelled_from : map from_of ended.cancelled_from.items ≡ row.cancelled_from

abbrev pub EndIsShown : List ℕ → interleaving.Row → Option Ended → Type 0
EndIsShown input row None = Unit {0}
EndIsShown input row (Some ended) = ShowsEnd input row ended

-- a row of the code shows a row of the definitions; its end, if it has ended
pub record IsShown (input : List ℕ) (row : interleaving.Row) (held : TaskRow) : Type 0 where
  pub start : held.start ≡ row.start
  pub children : held.children.items ≡ row.children
  pub end : EndIsShown input row held.end

-- each row does, by its number
abbrev pub AreShown : List ℕ → (ℕ → interleaving.Row) → List TaskRow → Type 0
AreShown input rs rows = (s : ℕ) (held : TaskRow) → slice_get rows s ≡ Some held → IsShown input (rs s) held

-- ---- which row is a child of which

-- how often a number occurs in a list
abbrev pub times : ℕ → List ℕ → ℕ
times c numbers = count_by (λ n. n == c) numbers

-- how often it occurs among the children of all rows
abbrev pub times_child : ℕ → List TaskRow → ℕ
times_child c rows = sum_by (λ r. times c r.children.items) rows

-- There is a row of the root, which is no task's child; each child has a row; and none is a child
-- twice.
pub record ChildrenAreApart (rows : List TaskRow) : Type 0 where
  pub root : 0 < length rows
  pub within : All (λ r. All (λ c. (0 < c) × (c < length rows)) r.children.items) rows
  pub once : (c : ℕ) → times_child c rows ≤ 1

-- ---- the records of rows

-- records and moments of cancellation show those of rows, depth first from the root's
pub record ShowRecords (input : List ℕ) (rs : ℕ → interleaving.Row) (shown : List Record) (shown_cancelled_from : List ScopeFrom) : Type 0 where
  pub taken : List ℕ
  pub order : interleaving.DepthFirst rs (0 ∷ []) taken
  pub records : map row_in shown ≡ map (row_of input) (interleaving.records_by rs taken)
  pub slices : AreSlices input shown
  pub cancelled_from : map from_of shown_cancelled_from ≡ interleaving.cancelled_from_in rs taken

-- the record of a task that was started in this tick and ended so
pub record IsRecordOf (start : ℕ) (ended : Ended) (r : Record) : Type 0 where
  pub label : r.label ≡ ended.label
  pub from_tick : r.from_tick ≡ start
  pub to_tick : r.to_tick ≡ ended.tick
  pub ending : ending_in r.outcome ≡ ending_of (option_map exc_of (unboxed_exc ended.exc))
  pub entries : r.entries.items ≡ ended.entries.items

-- the row of a task that was just started, in that tick, by the task of row `up`
pub record IsNewRow (up id tick : ℕ) (row : TaskRow) : Type 0 where
  pub parent : row.parent ≡ up
  pub task : row.task ≡ id
  pub start : row.start ≡ tick
  pub children : row.children.items ≡ []
  pub end : row.end ≡ None

-- the row that was there is replaced by one without children and without an end
pub record IsTakenOut (old : List TaskRow) (row_number : ℕ) (new : List TaskRow) : Type 0 where
  pub hollow : TaskRow
  pub childless : hollow.children.items ≡ []
  pub endless : hollow.end ≡ None
  pub set : new ≡ slice_set old row_number hollow
