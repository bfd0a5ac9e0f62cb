-- The lines of a page: those of the job, with numbers and warnings, and those of a report, a story or a table, with links.
use Rattle.std.specs.Prelude.{ℕ, ◌+◌, ◌==◌, Bool, true, false, if◌then◌else◌, Option, Some, None, List, [], ◌∷◌, ◌++◌, codes, decimal}
use Rattle.svg.specs.Content.{Attribute, attribute}
use Rattle.svg.specs.Escaping.{escaped_text}
use Rattle.svg.specs.declared.names.Tag.{Tag}
use Rattle.svg.specs.declared.names.Tag.TheVariants as tags
use Rattle.svg.specs.declared.names.Attr.TheVariants as attrs
use Rattle.page.specs.Markup.{element_text, classed, link}
use Rattle.page.specs.Fronts.{front, after_front}
use Rattle.page.specs.Links.{Row, has_row, line_of_sentence}
use Rattle.page.specs.declared.places.Place.{Place}
use Rattle.page.specs.declared.front.ByteKind.TheVariants.{Blank, Digit, Dark}
use Rattle.page.specs.declared.kind.LineKind.{LineKind}
use Rattle.page.specs.declared.kind.LineKind.TheVariants.{Plain, Placed, Story}

abbrev pub line_id : ℕ → List ℕ
line_id n = codes "line-" ++ decimal n

abbrev pub row_id : List ℕ → List ℕ
row_id label = codes "row-" ++ label

-- ---- a line of a table, such as ` 5:13  forever  hangs ..`: its place is a link to the line of the job

abbrev pub begins_with_colon : List ℕ → Bool
begins_with_colon [] = false
begins_with_colon (b ∷ bs) = b == 58

-- a place: a number and a colon
abbrev pub is_place : (number after : List ℕ) → Bool
is_place [] after = false
is_place (b ∷ bs) after = begins_with_colon after

abbrev pub placed_if : Bool → (blanks line : List ℕ) → List ℕ
placed_if false blanks line = escaped_text blanks ++ escaped_text line
placed_if true blanks line = escaped_text blanks ++ link (codes "line-" ++ front Digit line) (front Dark line) ++ escaped_text (after_front Dark line)

abbrev pub placed_after : (blanks line : List ℕ) → List ℕ
placed_after blanks line = placed_if (is_place (front Digit line) (after_front Digit line)) blanks line

abbrev pub placed_line : List ℕ → List ℕ
placed_line line = placed_after (front Blank line) (after_front Blank line)

-- ---- a line of a story, such as `  reader  sleeps until 7`: the task is a link to its row, and the sentence to a line of the job

abbrev pub label_text : List Row → List ℕ → List ℕ
label_text rows label = if has_row rows label then link (row_id label) label else escaped_text label

abbrev pub sentence_at : Option ℕ → List ℕ → List ℕ
sentence_at None sentence = escaped_text sentence
sentence_at (Some n) sentence = link (line_id n) sentence

abbrev pub story_after : List Place → List Row → (label rest : List ℕ) → List ℕ
story_after places rows label rest =
    label_text rows label ++ escaped_text (front Blank rest)
    ++ sentence_at (line_of_sentence places label (after_front Blank rest)) (after_front Blank rest)

-- the rest of a line, which speaks of a task if the line begins with blanks
abbrev pub story_rest : List Place → List Row → (blanks rest : List ℕ) → List ℕ
story_rest places rows [] rest = escaped_text rest
story_rest places rows (b ∷ blanks) rest = story_after places rows (front Dark rest) (after_front Dark rest)

abbrev pub story_line : List Place → List Row → List ℕ → List ℕ
story_line places rows line =
    escaped_text (front Blank line) ++ story_rest places rows (front Blank line) (after_front Blank line)

-- ---- lines

-- a row of a table, which has one cell
abbrev pub table_row : Tag → List Attribute → List ℕ → List ℕ
table_row tag attributes inside = element_text tags.Tr [] (element_text tag attributes inside)

abbrev pub shown_line : LineKind → List Place → List Row → List ℕ → List ℕ
shown_line Plain places rows line = escaped_text line
shown_line Placed places rows line = table_row tags.Td [] (placed_line line)
shown_line Story places rows line = story_line places rows line

abbrev pub line_text : LineKind → List Place → List Row → List ℕ → List ℕ
line_text kind places rows line = shown_line kind places rows line ++ codes "\n"

-- the last line of a text, if there are bytes after the last newline
abbrev pub last_line : LineKind → List Place → List Row → List ℕ → List ℕ
last_line kind places rows [] = []
last_line kind places rows (b ∷ bs) = line_text kind places rows (b ∷ bs)

-- the lines of a text, of which the first begins with `seen`
abbrev pub lines_from : LineKind → List Place → List Row → (seen : List ℕ) → List ℕ → List ℕ
lines_from kind places rows seen [] = last_line kind places rows seen
lines_from kind places rows seen (b ∷ bs) =
    if b == 10 then line_text kind places rows seen ++ lines_from kind places rows [] bs else lines_from kind places rows (seen ++ b ∷ []) bs

-- ---- the job

-- a warning about a line of the job
pub record Warned : Type 0 where
  pub line : ℕ
  pub sentence : List ℕ

abbrev pub warning_text : List ℕ → List ℕ
warning_text sentence = classed tags.Span (codes "warning") (escaped_text (codes "warning: " ++ sentence)) ++ codes "\n"

-- a warning, if it is about this line
abbrev pub warning_at : ℕ → Warned → List ℕ
warning_at n w = if w.line == n then warning_text w.sentence else []

-- the warnings about a line, each on a line of its own
abbrev pub warnings_at : ℕ → List Warned → List ℕ
warnings_at n [] = []
warnings_at n (w ∷ ws) = warning_at n w ++ warnings_at n ws

abbrev pub numbered : ℕ → List ℕ → List ℕ
numbered n line = classed tags.Span (codes "number") (escaped_text (decimal n ++ codes " ")) ++ escaped_text line

-- a line of the job with its number, and its warnings below it
abbrev pub job_line : List Warned → ℕ → List ℕ → List ℕ
job_line warned n line =
    element_text tags.Span (attribute attrs.Id (line_id n) ∷ attribute attrs.Class (codes "line") ∷ [])
    (numbered n line)
    ++ codes "\n" ++ warnings_at n warned

-- the last line of a job text, if there are bytes after the last newline
abbrev pub last_job_line : List Warned → ℕ → List ℕ → List ℕ
last_job_line warned n [] = []
last_job_line warned n (b ∷ bs) = job_line warned n (b ∷ bs)

-- the lines of a job text, of which the first has number `n` and begins with `seen`
abbrev pub job_lines : List Warned → ℕ → (seen : List ℕ) → List ℕ → List ℕ
job_lines warned n seen [] = last_job_line warned n seen
job_lines warned n seen (b ∷ bs) =
    if b == 10 then job_line warned n seen ++ job_lines warned (n + 1) [] bs else job_lines warned n (seen ++ b ∷ []) bs
