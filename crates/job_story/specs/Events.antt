-- The events of a story, one after the other.
use Rattle.std.specs.Prelude.{ℕ, Bool, true, false, Option, List, [], ◌∷◌, ◌++◌}
use Rattle.basics.specs.Sorting.{sorted_by}
use Rattle.input_lines.specs.Lines.{Range}
use Rattle.exceptions.specs.Exceptions.{Label, Exc}
use Rattle.job_story.specs.Story.{Happening, Story, no_more, happened, started}

-- the kind of an event: a task starts in a nursery (the root task in none) with its part, something happens to it, or it ends
pub data What : Type 0 where
  starts : (home : Option Label) → (part : Range) → What
  happens : (what : Happening) → What
  ends : (home : Option Label) → (exc : Option Exc) → What

abbrev pub is_start : What → Bool
is_start (starts home lent) = true
is_start (happens what) = false
is_start (ends home exc) = false

-- an event of a task; its `tick` is a moment
pub record Event : Type 0 where
  pub tick : ℕ
  pub task : Label
  pub what : What

abbrev pub event : ℕ → Label → What → Event
event t task what = record { tick = t; task = task; what = what }

-- The events of a task's story in the order of the walk, in which the events of a started task are where it was started.
abbrev pub events_of : Label → Story → List Event
events_of me no_more = []
events_of me (happened t what rest) = event t me (happens what) ∷ events_of me rest
events_of me (started l home part s u e own rest) =
    event s l (starts home part) ∷ (events_of l own ++ event u l (ends home e) ∷ events_of me rest)

-- when an event happened
abbrev pub moment_of : Event → ℕ
moment_of e = e.tick

-- the events sorted by moment, and within a moment in the order of the walk
abbrev pub in_order : List Event → List Event
in_order events = sorted_by moment_of events
