-- What clauses state about what tasks note.
use Rattle.std.specs.Prelude.{◌≡◌, ℕ, List, [], ◌∷◌, map, All}
use Rattle.input_lines.specs.Part.{span_of, line_text, IsLineOf}
use Rattle.job_meaning.specs.Moments.{tick_of}
use Rattle.job_meaning.specs.declared.clock.Clock.{Clock}
use Rattle.job_meaning.specs.Meaning.{From}
use Rattle.job_meaning.specs.Rest.{Event, noted, signs, enters, acts, starts}
use Rattle.job_meaning.specs.Shown.{Shown, line_shown, scope_shown, nursery_shown, wait_shown, grant_shown, shown_at}
use Rattle.task_machine.specs.declared.entry.Entry.{Entry}
use Rattle.task_machine.specs.declared.entry.Entry.TheVariants.{Line, Scope, Nursery, Wait, Granted}
use Rattle.task_machine.specs.declared.entry.ScopeFrom.{ScopeFrom}

-- an entry as it is shown
abbrev pub entry_of : Entry → Shown
entry_of (Line line) = line_shown (span_of line).at (line_text line)
entry_of (Scope label tick caught) = scope_shown label.value tick caught
entry_of (Nursery label tick caught) = nursery_shown label.value tick caught
entry_of (Wait label tick) = wait_shown label.value tick
entry_of (Granted ask label tick) = grant_shown ask label.value tick

-- an entry's line, if it is one, is the slice of the input at its place
abbrev pub IsSlice : List ℕ → Entry → Type 0
IsSlice input (Line shown_line) = IsLineOf input shown_line
IsSlice input (Scope label tick caught) = Unit {0}
IsSlice input (Nursery label tick caught) = Unit {0}
IsSlice input (Wait label tick) = Unit {0}
IsSlice input (Granted ask label tick) = Unit {0}

-- a scope or nursery with the moment from which it was cancelled
abbrev pub from_of : ScopeFrom → From
from_of f = record { label = f.label; seen = f.seen }

-- the entries among these events as they are shown, in order
abbrev pub shown_made : Clock → List ℕ → List Event → List Shown
shown_made clock input [] = []
shown_made clock input (noted t e ∷ es) = shown_at input (tick_of clock t) e ∷ shown_made clock input es
shown_made clock input (signs l t ∷ es) = shown_made clock input es
shown_made clock input (enters l t d ∷ es) = shown_made clock input es
shown_made clock input (acts l t a ∷ es) = shown_made clock input es
shown_made clock input (starts i l t ∷ es) = shown_made clock input es

-- the entries that a task noted correspond to these events, and their lines are slices of the input
pub record AreNoted (clock : Clock) (input : List ℕ) (entries : List Entry) (made : List Event) : Type 0 where
  pub shown : map entry_of entries ≡ shown_made clock input made
  pub slices : All (IsSlice input) entries
