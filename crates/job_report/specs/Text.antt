-- The text of a report.
use Rattle.std.specs.Prelude.{ℕ, ◌/◌, ◌%◌, Bool, true, false, ◌&&◌, not, ◌==◌, nat_le, if◌then◌else◌, List, [], ◌∷◌, ◌++◌, length, codes, decimal}
use Rattle.std.specs.List.{flat_map}
use Rattle.basics.specs.Hex.{hex_digit}
use Rattle.exceptions.specs.Texts.{label_text, exc_text}
use Rattle.job_tree.specs.declared.object.Ask.{Ask}
use Rattle.job_tree.specs.declared.object.Ask.TheVariants.{Acquire, Send, Receive}
use Rattle.job_meaning.specs.Shown.{Shown, line_shown, scope_shown, nursery_shown, wait_shown, grant_shown, Ending, well, by_cancellation, with_exception, Row}

abbrev pub ending_text : Ending → List ℕ
ending_text well = codes "done"
ending_text by_cancellation = codes "cancelled"
ending_text (with_exception e) = codes "raised " ++ exc_text e

-- a byte that is not escaped: 32 to 126, but no backslash
abbrev pub stands_for_itself : ℕ → Bool
stands_for_itself b = (nat_le 32 b && nat_le b 126) && not (b == 92)

-- a byte as a report shows it: a backslash is doubled, and what is not plain is `\x` and two digits
abbrev pub byte_text : ℕ → List ℕ
byte_text b =
    if stands_for_itself b then b ∷ []
    else (if b == 92 then 92 ∷ 92 ∷ [] else 92 ∷ 120 ∷ hex_digit (b / 16) ∷ hex_digit (b % 16) ∷ [])

abbrev pub caught_text : Bool → List ℕ
caught_text true = codes " caught\n"
caught_text false = codes " passed\n"

-- the word of the step that asks this
abbrev pub ask_word : Ask → List ℕ
ask_word Acquire = codes "acquire"
ask_word Send = codes "send"
ask_word Receive = codes "receive"

-- the line of a report for an entry
abbrev pub shown_text : Shown → List ℕ
shown_text (line_shown at text) =
    codes "  line " ++ decimal at ++ codes "+" ++ decimal (length text) ++ codes " " ++ flat_map byte_text text ++ codes "\n"
shown_text (scope_shown label tick caught) = codes "  scope " ++ label_text label ++ codes " " ++ decimal tick ++ caught_text caught
shown_text (nursery_shown label tick caught) = codes "  nursery " ++ label_text label ++ codes " " ++ decimal tick ++ caught_text caught
shown_text (wait_shown label tick) = codes "  wait " ++ label_text label ++ codes " " ++ decimal tick ++ codes "\n"
shown_text (grant_shown ask label tick) =
    codes "  " ++ ask_word ask ++ codes " " ++ label_text label ++ codes " " ++ decimal tick ++ codes "\n"

-- the lines of a report for a task
abbrev pub row_text : Row → List ℕ
row_text r = codes "task " ++ label_text r.label ++ codes " " ++ decimal r.start ++ codes " " ++ decimal r.end ++ codes " "
    ++ ending_text r.ending ++ codes "\n" ++ flat_map shown_text r.entries

-- the tick at which the root ended
abbrev pub last_tick : List Row → ℕ
last_tick [] = 0
last_tick (r ∷ rs) = r.end

-- a report: one line for the job, and the lines of each task
abbrev pub report_text : List ℕ → List Row → List ℕ
report_text name rows = codes "job " ++ name ++ codes " " ++ decimal (last_tick rows) ++ codes "\n" ++ flat_map row_text rows
