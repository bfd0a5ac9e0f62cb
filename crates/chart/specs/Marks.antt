-- The characters at each column of a row: a mark for what happens at its tick, and a line to the next column.
use Rattle.std.specs.Prelude.{ℕ, ◌-◌, ◌==◌, Bool, true, false, ◌&&◌, ◌||◌, Option, Some, None, List, [], ◌∷◌, ◌++◌, nat_le, nat_lt, is_some, replicate, if◌then◌else◌}
use Rattle.job_meaning.specs.Clocks.{tick_of}
use Rattle.job_meaning.specs.declared.clock.Clock.{Clock}
use Rattle.job_story.specs.Story.{is_cancelled, misses, raises, sets, finds_closed, deadlocks, closes_channel}
use Rattle.job_story.specs.Events.{What, starts, happens, Event}
use Rattle.chart.specs.Bars.{Bar}
use Rattle.chart.specs.Columns.{Column, gap_less_to}

-- ---- strokes

-- the characters with which a bar is drawn: its start, the line to its end, and its end
pub record Strokes : Type 0 where
  pub start : ℕ
  pub line : ℕ
  pub end : ℕ

-- `|---|` for a task, and `(===)` for a scope or nursery
abbrev pub strokes_of : What → Strokes
strokes_of (starts home lent) = record { start = 124; line = 45; end = 124 }
strokes_of _ = record { start = 40; line = 61; end = 41 }

-- ---- a bar on the columns

-- whether the event is that a task is cancelled
abbrev pub is_cross : What → Bool
is_cross (happens (is_cancelled by during in_cleanup)) = true
is_cross _ = false

-- whether the event is that a task raises an exception: by `raise`, by a `need` that finds no line, or in the queue of a limiter or channel
abbrev pub is_dot : What → Bool
is_dot (happens (misses name)) = true
is_dot (happens (raises name)) = true
is_dot (happens (finds_closed ask object at_once)) = true
is_dot (happens (deadlocks ask object)) = true
is_dot _ = false

-- whether the event is that a task sets an event of the job, or closes a channel
abbrev pub is_plus : What → Bool
is_plus (happens (sets label)) = true
is_plus (happens (closes_channel object)) = true
is_plus _ = false

-- the ticks of the events of a kind
abbrev pub ticks_where : Clock → (What → Bool) → List Event → List ℕ
ticks_where clock wanted [] = []
ticks_where clock wanted (e ∷ es) = if wanted e.what then tick_of clock e.tick ∷ ticks_where clock wanted es else ticks_where clock wanted es

-- with the tick of the moment from which a scope or nursery is cancelled; its cross is drawn if that is a column
abbrev pub with_cancelled : Clock → Option ℕ → List ℕ → List ℕ
with_cancelled clock None ts = ts
with_cancelled clock (Some m) ts = tick_of clock m ∷ ts

-- the tick at which a bar ends, or the last one of the chart where it has no end
abbrev pub end_tick : Clock → (last : ℕ) → Option Event → ℕ
end_tick clock last None = last
end_tick clock last (Some e) = tick_of clock e.tick

-- The ticks of a bar: at which it starts and ends, whether it has an end, and its crosses, dots and pluses.
pub record Row : Type 0 where
  pub strokes : Strokes
  pub start : ℕ
  pub end : ℕ
  pub closed : Bool
  pub crosses : List ℕ
  pub dots : List ℕ
  pub pluses : List ℕ

-- the row of a bar in a chart with this last tick
abbrev pub row_of : Clock → (last : ℕ) → Bar → Row
row_of clock last bar =
    record {
      strokes = strokes_of bar.first.what;
      start = tick_of clock bar.first.tick;
      end = end_tick clock last bar.last;
      closed = is_some bar.last;
      crosses = with_cancelled clock bar.cancelled (ticks_where clock is_cross bar.own);
      dots = ticks_where clock is_dot bar.own;
      pluses = ticks_where clock is_plus bar.own;
    }

-- ---- marks

abbrev pub has : ℕ → List ℕ → Bool
has t [] = false
has t (u ∷ us) = (t == u) || has t us

-- The mark of a row at a column: `x` for a cancellation, `!` for an exception that is raised, `+` for an event of the job that is set,
-- the start, the end, or the line between.
abbrev pub mark_at : Row → ℕ → ℕ
mark_at row t =
    if has t row.crosses then 120
    else (if has t row.dots then 33
    else (if has t row.pluses then 43
    else (if t == row.start then row.strokes.start
    else (if row.closed && t == row.end then row.strokes.end
    else row.strokes.line))))

-- Spaces up to the column where a row starts, then a mark at each column, with the line to the next, and nothing after the column
-- where it ends. The gaps are `less` smaller than they would be with ample room.
abbrev pub cells : (less : ℕ) → Row → List Column → List ℕ
cells less row [] = []
cells less row (c ∷ cs) =
    if nat_lt c.tick row.start then replicate (gap_less_to less c cs) 32 ++ cells less row cs
    else (if nat_le row.end c.tick then mark_at row c.tick ∷ []
    else mark_at row c.tick ∷ (replicate (gap_less_to less c cs - 1) row.strokes.line ++ cells less row cs))
