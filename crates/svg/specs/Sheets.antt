-- The coordinates of things in a drawing, in pixels, and what the story says of them.
use Rattle.std.specs.Prelude.{ℕ, ◌+◌, ◌-◌, ◌*◌, ◌/◌, ◌==◌, Bool, true, ◌&&◌, List, [], ◌∷◌, length, decimal, max, min, nat_le, if◌then◌else◌}
use Rattle.job_meaning.specs.Log.{Table}
use Rattle.job_meaning.specs.Moments.{tick_of}
use Rattle.job_meaning.specs.declared.clock.Clock.{Clock}
use Rattle.job_story.specs.Events.{Event}
use Rattle.job_story.specs.Notes.{Notes}
use Rattle.job_story.specs.Sentences.{kept_text}
use Rattle.chart.specs.Columns.{Column, column_at, column_by, last_tick, gap_less}
use Rattle.svg.specs.Content.{Content, nothing, text, element}
use Rattle.svg.specs.declared.names.Tag.TheVariants as tags
use Rattle.svg.specs.declared.layout.TheConstants.{LEFT, TOP, ROW, LETTER, PLACE, FARTHEST, MAX_NAME, MAX_ROWS}

-- What all parts of a drawing depend on: the length of the longest name of a row, the columns, by how much the gaps between them are
-- smaller than with ample room, the clock of the story's moments, the moments from which scopes and nurseries are cancelled and events
-- of the job set, the events of the story in order, and what they say of one another.
pub record Sheet : Type 0 where
  pub names : ℕ
  pub columns : List Column
  pub less : ℕ
  pub clock : Clock
  pub table : Table
  pub events : List Event
  pub notes : Notes

-- the room from a column to the next, in characters, where gaps are so much smaller, and 1 for the last; it is never so small that the
-- numbers above the two columns overlap
abbrev pub room_to : ℕ → Column → List Column → ℕ
room_to less c [] = 1
room_to less c (d ∷ cs) = max (length (decimal d.tick) / 2 + 1) (gap_less less c.tick d.tick)

-- the distance of the next column from the first one, in characters, where this one is so far from it; it is at most `FARTHEST`
abbrev pub next_place : (less at : ℕ) → Column → List Column → ℕ
next_place less at c cs = min FARTHEST (at + room_to less c cs)

-- the distance from the first column of the one at a tick, where these columns begin so far from it
abbrev pub place_from : (less at : ℕ) → List Column → ℕ → ℕ
place_from less at [] t = at
place_from less at (c ∷ cs) t = if nat_le t c.tick then at else place_from less (next_place less at c cs) cs t

-- whether a column is so many ticks and so much room from the next, if there is one
abbrev pub is_step : (less ticks room : ℕ) → Column → List Column → Bool
is_step less ticks room c [] = true
is_step less ticks room c (d ∷ cs) = (d.tick - c.tick == ticks) && (room_to less c (d ∷ cs) == room)

-- whether each of these columns is so many ticks and so much room from the next
abbrev pub is_even : (less ticks room : ℕ) → List Column → Bool
is_even less ticks room [] = true
is_even less ticks room (c ∷ cs) = is_step less ticks room c cs && is_even less ticks room cs

-- whether the axis is linear: neighbouring columns are all equally far apart, in ticks and in room
abbrev pub is_linear : ℕ → List Column → Bool
is_linear less [] = true
is_linear less (c ∷ []) = true
is_linear less (c ∷ d ∷ cs) = is_even less (d.tick - c.tick) (room_to less c (d ∷ cs)) (d ∷ cs)

-- the x coordinate at this distance from the first column
abbrev pub x_from : Sheet → ℕ → ℕ
x_from sheet at = LEFT + LETTER * (min MAX_NAME sheet.names + 2) + PLACE * at

-- the x coordinate of a column
abbrev pub x_at : Sheet → ℕ → ℕ
x_at sheet t = x_from sheet (place_from sheet.less 0 sheet.columns t)

-- the x coordinate at which something that happens in a moment is shown
abbrev pub x_of : Sheet → ℕ → ℕ
x_of sheet m = x_at sheet (column_at sheet.columns (tick_of sheet.clock m))

-- the x coordinate at which something that holds from a moment on begins to be shown
abbrev pub x_by : Sheet → ℕ → ℕ
x_by sheet m = x_at sheet (column_by sheet.columns (tick_of sheet.clock m))

-- the x coordinate of the outcomes, which stand in one column to the right of the last tick
abbrev pub outcome_x : Sheet → ℕ
outcome_x sheet = x_at sheet (last_tick sheet.columns) + LETTER * 2

-- the y coordinate of a row, which is not lower than the end of the last row that is shown
abbrev pub y_of : ℕ → ℕ
y_of i = TOP + ROW * min MAX_ROWS i

-- the middle of a row
abbrev pub middle_of : ℕ → ℕ
middle_of i = y_of i + 12

-- what the story says of these events, as a title
abbrev pub events_title : Sheet → List Event → Content
events_title sheet es = element tags.Title [] (text (kept_text sheet.clock sheet.table sheet.notes sheet.events es) nothing) nothing
