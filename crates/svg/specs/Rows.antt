-- The row of a bar.
use Rattle.std.specs.Prelude.{ℕ, ◌+◌, ◌-◌, ◌*◌, Bool, true, false, Option, Some, None, List, [], ◌∷◌, ◌++◌, length, codes, decimal, max, nat_le, take, if◌then◌else◌}
use Rattle.job_meaning.specs.Clocks.{tick_of}
use Rattle.job_meaning.specs.declared.clock.Clock.{Clock}
use Rattle.exceptions.specs.Exceptions.{Exc, cancelled}
use Rattle.job_meaning.specs.Walk.{a_scope, a_nursery}
use Rattle.job_story.specs.Story.{enters}
use Rattle.job_story.specs.Events.{What, starts, happens, ends, Event}
use Rattle.job_story.specs.Sentences.{kept_text}
use Rattle.chart.specs.Bars.{Bar}
use Rattle.chart.specs.Columns.{Column, column_at, last_tick}
use Rattle.chart.specs.Marks.{is_cross, is_dot}
use Rattle.chart.specs.Text.{name_of, outcome_of}
use Rattle.svg.specs.Content.{Content, nothing, text, element, Attribute, attribute}
use Rattle.svg.specs.declared.names.Tag.TheVariants as tags
use Rattle.svg.specs.declared.names.Attr.TheVariants as attrs
use Rattle.svg.specs.Sheets.{Sheet, x_at, x_of, x_by, outcome_x, y_of, middle_of, events_title}
use Rattle.svg.specs.declared.layout.TheConstants.{LEFT, LETTER, MAX_TITLED}

-- ---- words for the style sheet

abbrev pub exc_word : Option Exc → List ℕ
exc_word None = codes "done"
exc_word (Some cancelled) = codes "cancelled"
exc_word (Some e) = codes "raised"

abbrev pub end_word_by : What → List ℕ
end_word_by (ends home exc) = exc_word exc
end_word_by _ = codes "done"

-- how a task ended, if its end is in the events
abbrev pub end_word : Option Event → List ℕ
end_word None = codes "running"
end_word (Some e) = end_word_by e.what

abbrev pub shield_word : Bool → List ℕ
shield_word false = []
shield_word true = codes " shield"

-- the class of a bar: a task and how it ended, or a scope or nursery and whether it is shielded
abbrev pub class_by : What → Option Event → List ℕ
class_by (happens (enters (a_scope fail) label deadline shield)) last = codes "scope" ++ shield_word shield
class_by (happens (enters a_nursery label deadline shield)) last = codes "nursery" ++ shield_word shield
class_by _ last = codes "task " ++ end_word last

abbrev pub class_of : Bar → List ℕ
class_of bar = class_by bar.first.what bar.last

-- ---- sizes: the bar of a task is higher than that of a scope or nursery, whose name is further to the right

pub record Size : Type 0 where
  pub indent : ℕ
  pub down : ℕ
  pub height : ℕ

abbrev pub task_size : Size
task_size = record { indent = 0; down = 5; height = 14 }

abbrev pub block_size : Size
block_size = record { indent = 2; down = 8; height = 8 }

abbrev pub size_by : What → Size
size_by (starts home lent) = task_size
size_by _ = block_size

abbrev pub size_of : Bar → Size
size_of bar = size_by bar.first.what

-- ---- titles

abbrev pub event_list : Option Event → List Event
event_list None = []
event_list (Some e) = e ∷ []

-- the events that the title of a bar shows: those of a task, or how a scope or nursery is entered and left
abbrev pub titled_by : What → Bar → List Event
titled_by (starts home lent) bar = bar.own
titled_by _ bar = bar.first ∷ event_list bar.last

abbrev pub titled_events : Bar → List Event
titled_events bar = titled_by bar.first.what bar

-- that there are more events than the title shows, if there are
abbrev pub more_titled : ℕ → List ℕ
more_titled n = if nat_le n MAX_TITLED then [] else codes "and " ++ decimal (n - MAX_TITLED) ++ codes " more events\n"

abbrev pub bar_title : Sheet → Bar → Content
bar_title sheet bar =
    element tags.Title []
    (text (kept_text sheet.clock sheet.table sheet.notes sheet.events (take MAX_TITLED (titled_events bar))
    ++ more_titled (length (titled_events bar))) nothing) nothing

-- ---- parts of a row

abbrev pub start_x : Sheet → Bar → ℕ
start_x sheet bar = x_of sheet bar.first.tick

-- the column at which a bar ends, or the last column where it has no end
abbrev pub end_column : Clock → List Column → Option Event → ℕ
end_column clock cols None = last_tick cols
end_column clock cols (Some e) = column_at cols (tick_of clock e.tick)

abbrev pub end_x : Sheet → Bar → ℕ
end_x sheet bar = x_at sheet (end_column sheet.clock sheet.columns bar.last)

-- the width from one x coordinate to another, which is at least 2 pixels
abbrev pub width_to : ℕ → ℕ → ℕ
width_to x end = max 2 (end - x)

-- a rectangle at a point, of this width and height
abbrev pub box : List ℕ → ℕ → ℕ → ℕ → ℕ → List Attribute
box class x y width height =
    attribute attrs.Class class
    ∷ attribute attrs.X (decimal x)
    ∷ attribute attrs.Y (decimal y)
    ∷ attribute attrs.Width (decimal width)
    ∷ attribute attrs.Height (decimal height)
    ∷ attribute attrs.Rx (codes "3")
    ∷ []

-- a rectangle on a row
abbrev pub rectangle : ℕ → Size → List ℕ → ℕ → ℕ → List Attribute
rectangle i size class x end = box class x (y_of i + size.down) (width_to x end) size.height

-- a text at a point
abbrev pub words : List ℕ → ℕ → ℕ → List ℕ → Content → Content
words class x y bytes rest =
    element tags.Text (attribute attrs.Class class ∷ attribute attrs.X (decimal x) ∷ attribute attrs.Y (decimal y) ∷ [])
    (text bytes nothing) rest

-- the part of a scope's or nursery's bar in which it is cancelled, which begins at the first column at which it is
abbrev pub cancelled_part : Sheet → ℕ → Bar → Option ℕ → Content → Content
cancelled_part sheet i bar None rest = rest
cancelled_part sheet i bar (Some m) rest =
    element tags.Rect (rectangle i (size_of bar) (codes "from") (x_by sheet m) (end_x sheet bar)) nothing rest

-- one of the definitions, by its reference, at a point
abbrev pub used : List ℕ → ℕ → ℕ → List Attribute
used reference x y = attribute attrs.Href reference ∷ attribute attrs.X (decimal x) ∷ attribute attrs.Y (decimal y) ∷ []

-- a cross where a task is cancelled, and a dot where it raises an exception
abbrev pub cross : ℕ → ℕ → List Attribute
cross x y = used (codes "#cross") x y

abbrev pub dot : ℕ → ℕ → List Attribute
dot x y =
    attribute attrs.Class (codes "dot")
    ∷ attribute attrs.Cx (decimal x)
    ∷ attribute attrs.Cy (decimal y)
    ∷ attribute attrs.R (codes "4")
    ∷ []

abbrev pub mark : Sheet → ℕ → Event → Content → Content
mark sheet i e rest =
    if is_cross e.what then element tags.Use (cross (x_of sheet e.tick) (middle_of i)) (events_title sheet (e ∷ [])) rest
    else (if is_dot e.what then element tags.Circle (dot (x_of sheet e.tick) (middle_of i)) (events_title sheet (e ∷ [])) rest
    else rest)

abbrev pub marks : Sheet → ℕ → List Event → Content → Content
marks sheet i [] rest = rest
marks sheet i (e ∷ es) rest = mark sheet i e (marks sheet i es rest)

-- ---- the row: the name, the bar with what is cancelled of it and its marks, and the outcome

abbrev pub row : Sheet → ℕ → Bar → Content → Content
row sheet i bar rest =
    words (codes "name") (LEFT + LETTER * (size_of bar).indent) (y_of i + 16) (name_of bar)
    (element tags.Rect (rectangle i (size_of bar) (class_of bar) (start_x sheet bar) (end_x sheet bar)) (bar_title sheet bar)
    (cancelled_part sheet i bar bar.cancelled
    (marks sheet i bar.own
    (words (codes "outcome") (outcome_x sheet) (y_of i + 16) (outcome_of bar) (text (codes "\n") rest)))))

abbrev pub rows : Sheet → ℕ → List Bar → Content → Content
rows sheet i [] rest = rest
rows sheet i (b ∷ bs) rest = row sheet i b (rows sheet (i + 1) bs rest)
