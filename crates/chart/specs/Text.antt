-- The text of a chart.
use Rattle.std.specs.Prelude.{ℕ, zero, suc, ◌+◌, ◌-◌, ◌/◌, ◌%◌, Bool, true, ◌&&◌, Option, Some, None, List, [], ◌∷◌, ◌++◌, length, codes, decimal, max, min, nat_le, nat_lt, replicate, take, drop, if◌then◌else◌}
use Rattle.std.specs.Io.Iter.{u64_saturate}
use Rattle.job_meaning.specs.declared.clock.Clock.{Clock}
use Rattle.exceptions.specs.Exceptions.{Label}
use Rattle.cancel_scopes.specs.Sight.{Tick}
use Rattle.job_story.specs.Story.{enters, leaves}
use Rattle.job_story.specs.Events.{What, starts, happens, ends, Event}
use Rattle.job_story.specs.Sentences.{kind_text, padded_text}
use Rattle.exceptions.specs.Texts.{label_text, end_text}
use Rattle.chart.specs.Bars.{Bar}
use Rattle.chart.specs.Ticks.{all_ticks}
use Rattle.chart.specs.Columns.{Column, columns_of, last_tick, gap_less_to, fits_less, less_for}
use Rattle.chart.specs.Marks.{Row, row_of, cells}
use Rattle.chart.specs.declared.widths.TheConstants.{MAX_OUTCOME}

-- ---- the text before and after the marks of a row

-- the label of a task, or, indented, the word `scope` or `nursery` and its label
abbrev pub name_by : Label → What → List ℕ
name_by task (starts home lent) = label_text task
name_by task (happens (enters kind label deadline shield)) = codes "  " ++ kind_text kind ++ label_text label
name_by task _ = []

abbrev pub name_of : Bar → List ℕ
name_of bar = name_by bar.first.task bar.first.what

-- how a task ended, or whether a scope or nursery caught a cancellation
abbrev pub ended_text : What → List ℕ
ended_text (ends home exc) = end_text exc
ended_text (happens (leaves kind label inside caught outside)) = if caught then codes "caught" else codes "passed"
ended_text _ = []

-- the outcome of a bar that has no end
abbrev pub open_text : What → List ℕ
open_text (starts home lent) = codes "running"
open_text _ = codes "open"

abbrev pub outcome_by : What → Option Event → List ℕ
outcome_by first None = open_text first
outcome_by first (Some e) = ended_text e.what

abbrev pub outcome_of : Bar → List ℕ
outcome_of bar = outcome_by bar.first.what bar.last

-- ---- how wide it is

abbrev pub longest_name : List Bar → ℕ
longest_name [] = 0
longest_name (b ∷ bs) = max (length (name_of b)) (longest_name bs)

abbrev pub longest_outcome : List Bar → ℕ
longest_outcome [] = 0
longest_outcome (b ∷ bs) = max (length (outcome_of b)) (longest_outcome bs)

-- the room that is left for the columns beside names of this length; a long outcome is cut, and takes no more than `MAX_OUTCOME`
abbrev pub room_for : ℕ → ℕ → List Bar → ℕ
room_for width names bars = width - (names + 2) - (min MAX_OUTCOME (longest_outcome bars) + 1)

-- a line with its newline, cut where it is longer than a width, which is at least 2
abbrev pub cut_line : ℕ → List ℕ → List ℕ
cut_line width line = (if nat_le (length line) width then line else take (width - 2) line ++ codes "..") ++ codes "\n"

-- ---- the numbers above the columns

-- whether a row of numbers has room for one more at a column: it is empty, or ends with a blank before the column
abbrev pub has_room : ℕ → List ℕ → Bool
has_room at [] = true
has_room at (c ∷ row) = nat_lt (length (c ∷ row)) at

-- a number at a column, in the first row that has room for it; a number for which no row has room is left away
abbrev pub placed : ℕ → List ℕ → List (List ℕ) → List (List ℕ)
placed at number [] = []
placed at number (row ∷ rows) =
    if has_room at row then (padded_text at row ++ number) ∷ rows else row ∷ placed at number rows

-- the numbers of the columns from one on, which stands at `at`, in these rows
abbrev pub numbered : (less at : ℕ) → List Column → List (List ℕ) → List (List ℕ)
numbered less at [] rows = rows
numbered less at (c ∷ cs) rows = numbered less (u64_saturate (at + gap_less_to less c cs)) cs (placed at (decimal c.tick) rows)

-- the rows of numbers of some columns: four at most
abbrev pub numbers : ℕ → List Column → List (List ℕ)
numbers less cs = numbered less 0 cs ([] ∷ [] ∷ [] ∷ [] ∷ [])

-- ---- lines

-- a row of numbers is a line, unless it is empty
abbrev pub number_line : (width names : ℕ) → List ℕ → List ℕ
number_line width names [] = []
number_line width names (c ∷ row) = cut_line width (replicate (names + 2) 32 ++ (c ∷ row))

abbrev pub header : (width names : ℕ) → List (List ℕ) → List ℕ
header width names [] = []
header width names (row ∷ rows) = number_line width names row ++ header width names rows

abbrev pub first_tick : List Column → ℕ
first_tick [] = 0
first_tick (c ∷ cs) = c.tick

-- whether a row has a part at these columns
abbrev pub is_there : Row → List Column → Bool
is_there row cs = nat_le row.start (last_tick cs) && nat_le (first_tick cs) row.end

-- the mark before the first of these columns: `~` where the row began before it
abbrev pub mark_before : Row → List Column → List ℕ
mark_before row cs = if nat_lt row.start (first_tick cs) then codes "~" else codes " "

-- what is after the last of these columns: the outcome, or `~` where the row goes on after it
abbrev pub text_after : Row → List Column → Bar → List ℕ
text_after row cs bar = if nat_le row.end (last_tick cs) then codes " " ++ outcome_of bar else codes "~"

abbrev pub row_text : (less : ℕ) → Row → List Column → (names : ℕ) → Bar → List ℕ
row_text less row cs names bar =
    padded_text names (name_of bar) ++ codes " " ++ mark_before row cs ++ cells less row cs ++ text_after row cs bar

-- the line of a row, if it has a part at these columns
abbrev pub line_if_there : (width less : ℕ) → Row → List Column → (names : ℕ) → Bar → List ℕ
line_if_there width less row cs names bar = if is_there row cs then cut_line width (row_text less row cs names bar) else []

-- the line of a bar in a chart with this last tick
abbrev pub row_line : Clock → (width last less : ℕ) → List Column → (names : ℕ) → Bar → List ℕ
row_line clock width last less cs names bar = line_if_there width less (row_of clock last bar) cs names bar

abbrev pub rows_text : Clock → (width last less : ℕ) → List Column → (names : ℕ) → List Bar → List ℕ
rows_text clock width last less cs names [] = []
rows_text clock width last less cs names (b ∷ bs) =
    row_line clock width last less cs names b ++ rows_text clock width last less cs names bs

-- ---- panels

-- some columns with their numbers, and the rows that have a part there
abbrev pub panel_text : Clock → (width last less : ℕ) → (names : ℕ) → List Bar → List Column → List ℕ
panel_text clock width last less names bars cs =
    header width names (numbers less cs) ++ rows_text clock width last less cs names bars

-- so many panels of `size` columns, one below the other
abbrev pub panels_text : Clock → (width last less : ℕ) → (names : ℕ) → List Bar → (size count : ℕ) → List Column → List ℕ
panels_text clock width last less names bars size zero cs = []
panels_text clock width last less names bars size (suc count) cs =
    panel_text clock width last less names bars (take size cs)
    ++ panels_text clock width last less names bars size count (drop size cs)

-- All columns are in one panel if they fit. Otherwise each takes one character, and a panel has as many as fit with the digits of
-- the last one, and at least 10.
abbrev pub panel_size : (room less : ℕ) → List Column → ℕ
panel_size room less cs = if fits_less less room cs then max 1 (length cs) else max 10 (room - length (decimal (last_tick cs)))

-- the line that says that a story is cut off at a limit, if it is
abbrev pub limit_text : ℕ → Tick → List ℕ
limit_text width None = []
limit_text width (Some limit) = cut_line width (codes "limit " ++ decimal limit)

-- by how much gaps are made smaller so that all columns fit into a width, beside the names and outcomes of these bars
abbrev pub less_to_fit : (width : ℕ) → List Column → List Bar → ℕ
less_to_fit width all bars = less_for (room_for width (longest_name bars) bars) all

-- how many panels of a size some columns take, of which the last one may have fewer
abbrev pub panel_count : (size columns : ℕ) → ℕ
panel_count size columns = columns / size + min 1 (columns % size)

-- the text with these columns in panels of a size
abbrev pub text_in_panels : Clock → ℕ → Tick → (less size names : ℕ) → List Column → List Bar → List ℕ
text_in_panels clock width until less size names cs bars =
    panels_text clock width (last_tick cs) less names bars size (panel_count size (length cs)) cs ++ limit_text width until

-- the text with these columns, for which there is so much room
abbrev pub text_in_room : Clock → ℕ → Tick → (room names : ℕ) → List Column → List Bar → List ℕ
text_in_room clock width until room names cs bars =
    text_in_panels clock width until (less_for room cs) (panel_size room (less_for room cs) cs) names cs bars

-- The text of a chart with these events and bars, not wider than a width, of a story that is whole or cut off at a limit. There is a
-- column for each tick at which something happens.
abbrev pub chart_text : Clock → ℕ → Tick → List Event → List Bar → List ℕ
chart_text clock width until es bars =
    let names = longest_name bars in
    text_in_room clock width until (room_for width names bars) names (columns_of (all_ticks clock es until)) bars
