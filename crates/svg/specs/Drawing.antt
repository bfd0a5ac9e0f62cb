-- A chart as an SVG document.
use Rattle.std.specs.Prelude.{ℕ, ◌+◌, ◌-◌, ◌*◌, Bool, true, false, Some, None, List, [], ◌∷◌, ◌++◌, length, codes, decimal, max, min, nat_le, take, if◌then◌else◌}
use Rattle.cancel_scopes.specs.Sight.{Tick}
use Rattle.job_meaning.specs.Log.{Table}
use Rattle.job_meaning.specs.declared.clock.Clock.{Clock}
use Rattle.job_story.specs.Notes.{Notes, notes_in}
use Rattle.job_story.specs.Events.{Event, in_order}
use Rattle.chart.specs.Bars.{Bar}
use Rattle.chart.specs.Ticks.{all_ticks}
use Rattle.chart.specs.Columns.{Column, columns_of, last_tick}
use Rattle.chart.specs.Text.{name_of, longest_name, longest_outcome, less_to_fit}
use Rattle.svg.specs.Content.{Content, nothing, text, element, Attribute, attribute, content_text}
use Rattle.svg.specs.declared.names.Tag.TheVariants as tags
use Rattle.svg.specs.declared.names.Attr.TheVariants as attrs
use Rattle.svg.specs.Sheets.{Sheet, x_from, x_at, y_of, next_place, is_linear}
use Rattle.svg.specs.Rows.{words, rows}
use Rattle.svg.specs.Arrows.{segment, arrows}
use Rattle.svg.specs.Legend.{legend}
use Rattle.svg.specs.declared.layout.TheConstants.{LEFT, TOP, ROW, LETTER, MAX_ROWS, MAX_SHOWN, LEGEND}
use Rattle.svg.specs.declared.style.TheConstants.{STYLE}

-- ---- the style sheet and the definitions

abbrev pub style : Content → Content
style rest = element tags.Style [] (text STYLE.now nothing) rest

abbrev pub path : List ℕ → List ℕ → Content → Content
path class steps rest = element tags.Path (attribute attrs.Class class ∷ attribute attrs.D steps ∷ []) nothing rest

-- the head of an arrow
abbrev pub arrow_head : Content → Content
arrow_head rest =
    element tags.Marker
    (attribute attrs.Id (codes "arrow")
    ∷ attribute attrs.ViewBox (codes "0 0 8 8")
    ∷ attribute attrs.RefX (codes "7")
    ∷ attribute attrs.RefY (codes "4")
    ∷ attribute attrs.MarkerWidth (codes "7")
    ∷ attribute attrs.MarkerHeight (codes "7")
    ∷ attribute attrs.Orient (codes "auto")
    ∷ [])
    (path (codes "head") (codes "M0 0 8 4 0 8z") nothing) rest

-- a pattern that fills the bar of a task that was cancelled, or that raised an exception
abbrev pub fill : List ℕ → List ℕ → Content → Content
fill id steps rest =
    element tags.Pattern
    (attribute attrs.Id id
    ∷ attribute attrs.PatternUnits (codes "userSpaceOnUse")
    ∷ attribute attrs.Width (codes "6")
    ∷ attribute attrs.Height (codes "6")
    ∷ [])
    (path id steps nothing) rest

-- a mark, with the point where it is used at its centre
abbrev pub mark_path : List ℕ → List ℕ → Content → Content
mark_path id steps rest = element tags.Path (attribute attrs.Id id ∷ attribute attrs.Class id ∷ attribute attrs.D steps ∷ []) nothing rest

-- the cross, and the flag of a deadline
abbrev pub mark_paths : Content → Content
mark_paths rest = mark_path (codes "cross") (codes "M-4-4 4 4M-4 4 4-4") (mark_path (codes "deadline") (codes "M0 8V-8L7-4 0 0") rest)

abbrev pub definitions : Content → Content
definitions rest =
    element tags.Defs []
    (arrow_head
    (fill (codes "slanted") (codes "M0 6 6 0")
    (fill (codes "crossed") (codes "M0 6 6 0M0 0 6 6")
    (mark_paths nothing))))
    rest

-- ---- the ticks, with a line down from each

abbrev pub tick_line : ℕ → ℕ → Column → Content → Content
tick_line x bottom c rest =
    element tags.Line (segment (codes "tick") x TOP x bottom) nothing
    (words (codes "tick") x (TOP - 6) (decimal c.tick) (text (codes "\n") rest))

-- those of these columns, which begin so far from the first one
abbrev pub tick_lines : Sheet → ℕ → ℕ → List Column → Content → Content
tick_lines sheet bottom at [] rest = rest
tick_lines sheet bottom at (c ∷ cs) rest =
    tick_line (x_from sheet at) bottom c (tick_lines sheet bottom (next_place sheet.less at c cs) cs rest)

-- ---- notes

abbrev pub note : ℕ → List ℕ → Content → Content
note y [] rest = rest
note y (b ∷ bs) rest = words (codes "note") LEFT y (b ∷ bs) rest

-- the note that the story is cut off at a limit, if it is
abbrev pub limit_note : Tick → List ℕ
limit_note None = []
limit_note (Some limit) = codes "limit " ++ decimal limit

-- the note that the axis is not linear, if it is not
abbrev pub axis_note : Bool → List ℕ
axis_note true = []
axis_note false = codes "gaps between ticks grow with the logarithm of the time, and are not to scale"

-- the note that says how many rows are not shown, if there are any
abbrev pub rows_note : ℕ → List ℕ
rows_note n = if nat_le n MAX_ROWS then [] else decimal (n - MAX_ROWS) ++ codes " rows are left out"

-- the notes about a story that is cut off or not, an axis that is linear or not, and so many rows
abbrev pub notes : Tick → ℕ → Bool → ℕ → Content → Content
notes until bottom linear n rest =
    note (bottom + ROW) (limit_note until) (note (bottom + ROW * 2) (axis_note linear) (note (bottom + ROW * 3) (rows_note n) rest))

-- ---- the document

-- the name of the job, which is that of its first row
abbrev pub title_bytes : List Bar → List ℕ
title_bytes [] = []
title_bytes (b ∷ bs) = name_of b

-- the y coordinate at which the rows end
abbrev pub bottom_of : List Bar → ℕ
bottom_of bars = y_of (length (take MAX_ROWS bars))

abbrev pub width_of : Sheet → List Bar → ℕ
width_of sheet bars =
    max (LEFT + LEGEND) (x_at sheet (last_tick sheet.columns) + LETTER * (min MAX_SHOWN (longest_outcome bars) + 4))

abbrev pub height_of : List Bar → ℕ
height_of bars = bottom_of bars + ROW * 7

abbrev pub svg_attributes : ℕ → ℕ → List Attribute
svg_attributes width height =
    attribute attrs.Xmlns (codes "http://www.w3.org/2000/svg")
    ∷ attribute attrs.ViewBox (codes "0 0 " ++ decimal width ++ codes " " ++ decimal height)
    ∷ attribute attrs.Width (decimal width)
    ∷ attribute attrs.Height (decimal height)
    ∷ []

abbrev pub inside_of : Sheet → Tick → List Bar → Content
inside_of sheet until bars =
    let shown = take MAX_ROWS bars in
    element tags.Title [] (text (title_bytes bars) nothing)
    (style
    (definitions
    (tick_lines sheet (bottom_of bars) 0 sheet.columns
    (rows sheet 0 shown
    (arrows sheet shown 0 shown
    (notes until (bottom_of bars) (is_linear sheet.less sheet.columns) (length bars)
    (legend (bottom_of bars + ROW * 3 + 12) nothing)))))))

abbrev pub document : Sheet → Tick → List Bar → Content
document sheet until bars = element tags.Svg (svg_attributes (width_of sheet bars) (height_of bars)) (inside_of sheet until bars) nothing

-- the sheet of a chart with these columns, whose gaps are as much smaller as they are in a text chart of this width
abbrev pub sheet_of : Clock → ℕ → Table → Notes → List Event → List Column → List Bar → Sheet
sheet_of clock width table notes sorted all bars =
    record {
      names = longest_name bars;
      columns = all;
      less = less_to_fit width all bars;
      clock = clock;
      table = table;
      events = sorted;
      notes = notes;
    }

-- the drawing of a story, from its events in the order of the walk and their bars, with a column for each tick at which something happens
abbrev pub drawing_of : Clock → ℕ → Table → Tick → List Event → List Bar → Content
drawing_of clock width table until walked bars =
    document (sheet_of clock width table (notes_in walked) (in_order walked) (columns_of (all_ticks clock walked until)) bars) until bars

abbrev pub chart_svg : Clock → ℕ → Table → Tick → List Event → List Bar → List ℕ
chart_svg clock width table until walked bars = content_text (drawing_of clock width table until walked bars)
