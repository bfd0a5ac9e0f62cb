-- What the lines of a story and of a table link to: the lines of the job, and the rows of the chart.
use Rattle.std.specs.Prelude.{ℕ, ◌+◌, Bool, false, nat_eq, ◌||◌, if◌then◌else◌, Option, Some, None, List, [], ◌∷◌, length, drop, codes}
use Rattle.std.specs.List.{starts_with}
use Rattle.std.specs.Str.{bytes_eq}
use Rattle.job_tokens.specs.declared.token.Token.{Token}
use Rattle.basics.specs.Places.{line_of}
use Rattle.chart.specs.Bars.{Bar}
use Rattle.exceptions.specs.Texts.{label_text}
use Rattle.job_story.specs.Limit.{is_start}
use Rattle.commands.specs.Names.{given_after}
use Rattle.page.specs.Fronts.{front}
use Rattle.page.specs.declared.front.ByteKind.TheVariants.{NameByte}
use Rattle.page.specs.declared.places.Place.{Place}

abbrev pub with_place : List ℕ → Option (List ℕ) → ℕ → List Place → List Place
with_place text None at others = others
with_place text (Some name) at others = record { name = name; line = line_of text at } ∷ others

-- the names that some tokens of a text give, each with the line of the keyword before it
abbrev pub places_in : List ℕ → List Token → List Place
places_in text [] = []
places_in text (t ∷ ts) = with_place text (given_after t ts) t.at (places_in text ts)

-- the line of a name
abbrev pub line_of_name : List Place → List ℕ → Option ℕ
line_of_name [] name = None
line_of_name (p ∷ ps) name = if bytes_eq p.name name then Some p.line else line_of_name ps name

-- ---- labels

-- the name with which a text begins: that of a label, without its indices
abbrev pub name_before : List ℕ → List ℕ
name_before bytes = front NameByte bytes

abbrev pub either : Option ℕ → Option ℕ → Option ℕ
either None other = other
either (Some n) other = Some n

-- the line of the name that comes after a word, if the text begins with the word
abbrev pub line_after : List Place → List ℕ → List ℕ → Option ℕ
line_after places word bytes = if starts_with nat_eq bytes word then line_of_name places (name_before (drop (length word) bytes)) else None

-- the line of the scope, nursery or event that is named here
abbrev pub line_here : List Place → List ℕ → Option ℕ
line_here places bytes =
    either (line_after places (codes " scope ") bytes)
    (either (line_after places (codes " nursery ") bytes) (line_after places (codes " event ") bytes))

-- the line of the first scope, nursery or event that a sentence names
abbrev pub line_in : List Place → List ℕ → Option ℕ
line_in places [] = None
line_in places (b ∷ bs) = either (line_here places (b ∷ bs)) (line_in places bs)

-- the line of what a sentence about a task is about: the first scope, nursery or event that it names, or else the task; the task where it starts
abbrev pub line_of_sentence : List Place → (task sentence : List ℕ) → Option ℕ
line_of_sentence places task sentence =
    if starts_with nat_eq sentence (codes "starts") then line_of_name places (name_before task)
    else either (line_in places sentence) (line_of_name places (name_before task))

-- ---- rows

-- the label of a task that has a row in the chart, and the number of the row
pub record Row : Type 0 where
  pub label : List ℕ
  pub row : ℕ

-- the row of a bar, if the bar is that of a task, and later rows
abbrev pub with_row : ℕ → Bar → List Row → List Row
with_row i b later = if is_start b.first.what then record { label = label_text b.first.task; row = i } ∷ later else later

-- the rows of the tasks among these, which begin with row `i`
abbrev pub rows_from : ℕ → List Bar → List Row
rows_from i [] = []
rows_from i (b ∷ bs) = with_row i b (rows_from (i + 1) bs)

abbrev pub has_row : List Row → List ℕ → Bool
has_row [] label = false
has_row (r ∷ rs) label = bytes_eq r.label label || has_row rs label
