-- What a reader is shown of a job's meaning: records whose lines have their bytes.
use Rattle.std.specs.Prelude.{ℕ, Bool, Option, Some, None, List, map}
use Rattle.job_tree.specs.Tree.{Tree}
use Rattle.job_tree.specs.declared.object.Ask.{Ask}
use Rattle.input_lines.specs.Lines.{text_of}
use Rattle.exceptions.specs.Exceptions.{Label, Exc, cancelled, raised, too_slow, group}
use Rattle.job_meaning.specs.Log.{Entry, line, waited, scope_left, nursery_left, was_granted}
use Rattle.job_meaning.specs.Meaning.{Noted, Record, meaning_records}

-- an entry: a line with its place and its bytes, or a scope or nursery that was left, an event for which it waited, or what a
-- limiter or channel granted, with the tick
pub data Shown : Type 0 where
  line_shown : (at : ℕ) → (text : List ℕ) → Shown
  scope_shown : (label : Label) → (tick : ℕ) → (caught : Bool) → Shown
  nursery_shown : (label : Label) → (tick : ℕ) → (caught : Bool) → Shown
  wait_shown : (label : Label) → (tick : ℕ) → Shown
  grant_shown : (ask : Ask) → (label : Label) → (tick : ℕ) → Shown

abbrev pub shown_at : List ℕ → ℕ → Entry → Shown
shown_at input t (line l) = line_shown l.at (text_of input l)
shown_at input t (scope_left label caught) = scope_shown label t caught
shown_at input t (nursery_left label caught) = nursery_shown label t caught
shown_at input t (waited label) = wait_shown label t
shown_at input t (was_granted ask label) = grant_shown ask label t

-- an entry as it is shown: each line is the slice of the input at its place
abbrev pub as_shown : List ℕ → Noted → Shown
as_shown input n = shown_at input n.tick n.entry

-- how a task ended: well, with one `Cancelled` outside any group, or with another exception
pub data Ending : Type 0 where
  well : Ending
  by_cancellation : Ending
  with_exception : (exc : Exc) → Ending

abbrev pub ending_with : Exc → Ending
ending_with cancelled = by_cancellation
ending_with (raised name task tick) = with_exception (raised name task tick)
ending_with (too_slow scope tick) = with_exception (too_slow scope tick)
ending_with (group whose parts) = with_exception (group whose parts)

abbrev pub ending_of : Option Exc → Ending
ending_of None = well
ending_of (Some e) = ending_with e

-- a record as it is shown
pub record Row : Type 0 where
  pub label : Label
  pub start : ℕ
  pub end : ℕ
  pub ending : Ending
  pub entries : List Shown

abbrev pub row_of : List ℕ → Record → Row
row_of input r = record { label = r.label; start = r.start; end = r.end; ending = ending_of r.exc; entries = map (as_shown input) r.entries }

-- the records of a job's meaning over an input, as they are shown
abbrev pub meaning_rows : Tree → List ℕ → List Row
meaning_rows job input = map (row_of input) (meaning_records job input)
