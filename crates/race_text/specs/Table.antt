-- The table of the places of a job where a hair changes the outcome.
use Rattle.std.specs.Prelude.{ℕ, ◌==◌, Bool, ◌&&◌, max, if◌then◌else◌, Option, Some, None, List, [], ◌∷◌, ◌++◌, length, codes, decimal}
use Rattle.exceptions.specs.Texts.{label_text}
use Rattle.job_edits.specs.declared.shift.Hair.{Hair}
use Rattle.job_edits.specs.declared.shift.Hair.TheVariants.{Earlier, Later}
use Rattle.job_edits.specs.Sites.{moment_text}
use Rattle.outcomes.specs.Table.{left_text, right_text, more_text}
use Rattle.race_text.specs.declared.columns.Widths.{Widths}
use Rattle.race_text.specs.Lines.{Line, in_finer_ticks, moved, copies, is_shown, is_race, is_not_tried, is_hair_not_tried, found_text}

-- ---- columns

abbrev pub at_text : ℕ → ℕ → List ℕ
at_text line column = decimal line ++ codes ":" ++ decimal column

abbrev pub place_text : Line → List ℕ
place_text (in_finer_ticks found) = []
place_text (moved line column moment hair found) = at_text line column
place_text (copies line column name count one other tick) = at_text line column

-- how many tasks a `start` starts at once, if it says so
abbrev pub over_text : Option ℕ → List ℕ
over_text None = []
over_text (Some count) = codes " over " ++ decimal count

abbrev pub step_text : Line → List ℕ
step_text (in_finer_ticks found) = []
step_text (moved line column moment hair found) = moment_text moment
step_text (copies line column name count one other tick) = codes "start " ++ name ++ over_text count

abbrev pub hair_name : Hair → List ℕ
hair_name Earlier = codes "earlier"
hair_name Later = codes "later"

abbrev pub hair_text : Line → List ℕ
hair_text (in_finer_ticks found) = codes "finer"
hair_text (moved line column moment hair found) = hair_name hair
hair_text (copies line column name count one other tick) = codes "copies"

abbrev pub finding_text : Line → List ℕ
finding_text (in_finer_ticks found) = found_text found
finding_text (moved line column moment hair found) = found_text found
finding_text (copies line column name count one other tick) = label_text one ++ codes " and " ++ label_text other ++ codes " meet at " ++ decimal tick

-- the longest text of a column
abbrev pub width_of : (Line → List ℕ) → List Line → ℕ
width_of text [] = 0
width_of text (l ∷ ls) = max (length (text l)) (width_of text ls)

-- the widths of the columns: places, steps and hairs
abbrev pub widths_of : List Line → Widths
widths_of ls = record { place = width_of place_text ls; step = width_of step_text ls; hair = width_of hair_text ls }

-- ---- the table

abbrev pub line_text : Widths → Line → List ℕ
line_text w l =
    right_text w.place (place_text l) ++ codes "  " ++ left_text w.step (step_text l) ++ codes "  " ++ left_text w.hair (hair_text l) ++ codes "  "
    ++ finding_text l ++ codes "\n"

abbrev pub lines_text : Widths → List Line → List ℕ
lines_text w [] = []
lines_text w (l ∷ ls) = line_text w l ++ lines_text w ls

abbrev pub lines_that : (Line → Bool) → List Line → List Line
lines_that test [] = []
lines_that test (l ∷ ls) = if test l then l ∷ lines_that test ls else lines_that test ls

-- There is no race where everything was compared and nothing differs.
abbrev pub races_text : ℕ → ℕ → List ℕ
races_text races untried = if races == 0 && untried == 0 then codes "no race" else decimal races ++ codes " races"

-- how many hairs there are, how many lines are races, and with how many hairs nothing was compared
abbrev pub counts_text : ℕ → List Line → List ℕ
counts_text hairs ls =
    decimal hairs ++ codes " hairs: " ++ races_text (length (lines_that is_race ls)) (length (lines_that is_not_tried ls))
    ++ more_text (length (lines_that is_hair_not_tried ls)) (codes " hairs not tried") ++ codes "\n"

-- the lines that are shown, in columns as wide as their longest text, and the counts
abbrev pub table_text : ℕ → List Line → List ℕ
table_text hairs ls = lines_text (widths_of (lines_that is_shown ls)) (lines_that is_shown ls) ++ counts_text hairs ls

-- What may be a race: the lines of the table, which are races, or say that nothing was compared.
abbrev pub denied_text : List Line → List ℕ
denied_text ls = lines_text (widths_of (lines_that is_shown ls)) (lines_that is_shown ls)
