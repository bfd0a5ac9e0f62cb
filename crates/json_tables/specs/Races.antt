-- The places of a job on which its outcome depends by a hair, as a JSON value.
use Rattle.std.specs.Prelude.{ℕ, true, List, [], ◌∷◌, length, map, codes}
use Rattle.serde_json.specs.Data.{Data, null, boolean, object, member, no_members}
use Rattle.exceptions.specs.Exceptions.{Label}
use Rattle.job_edits.specs.declared.shift.Hair.{Hair}
use Rattle.race_text.specs.Differences.{Difference, otherwise, inside}
use Rattle.race_text.specs.Lines.{Found, not_tried, differs, Line, in_finer_ticks, moved, copies, is_shown, is_race, is_hair_not_tried}
use Rattle.race_text.specs.Table.{hair_name, step_text, lines_that}
use Rattle.json_story.specs.Values.{integer, word, list_of, text_json, label_json}
use Rattle.json_tables.specs.Results.{not_tried_json}

-- `{"after":TEXT,"before":TEXT,"task":LABEL}`, or `{"entries_differ":true,"task":LABEL}` where only lines, exits or waits differ
abbrev pub difference_json : Difference → Data
difference_json (otherwise task before after) =
    object (member (codes "after") (text_json after) (member (codes "before") (text_json before)
    (member (codes "task") (label_json task) no_members)))
difference_json (inside task) =
    object (member (codes "entries_differ") (boolean true) (member (codes "task") (label_json task) no_members))

-- all differences, or none where nothing was compared
abbrev pub differences_json : Found → List Data
differences_json (not_tried fault) = []
differences_json (differs tasks) = map difference_json tasks

-- the refusal of the text with which nothing was compared, or `null`
abbrev pub refusal_or_null : Found → Data
refusal_or_null (not_tried fault) = not_tried_json fault
refusal_or_null (differs tasks) = null

-- the text in finer ticks: `{"differences":[..],"hair":"in_finer_ticks","not_tried":REFUSAL}`
abbrev pub finer_ticks_json : Found → Data
finer_ticks_json found =
    object (member (codes "differences") (list_of (differences_json found)) (member (codes "hair") (word (codes "finer"))
    (member (codes "not_tried") (refusal_or_null found) no_members)))

-- a place that is moved: `{"column":N,"differences":[..],"hair":WORD,"line":N,"not_tried":REFUSAL,"step":TEXT}`
abbrev pub moved_json : ℕ → ℕ → Hair → Found → List ℕ → Data
moved_json line column hair found step =
    object (member (codes "column") (integer column) (member (codes "differences") (list_of (differences_json found))
    (member (codes "hair") (word (hair_name hair)) (member (codes "line") (integer line)
    (member (codes "not_tried") (refusal_or_null found) (member (codes "step") (text_json step) no_members))))))

-- copies that meet: `{"column":N,"hair":"copies","line":N,"step":TEXT,"tasks":[LABEL,LABEL],"tick":T}`
abbrev pub copies_json : ℕ → ℕ → Label → Label → ℕ → List ℕ → Data
copies_json line column one other tick step =
    object (member (codes "column") (integer column) (member (codes "hair") (word (codes "copies")) (member (codes "line") (integer line)
    (member (codes "step") (text_json step) (member (codes "tasks") (list_of (label_json one ∷ label_json other ∷ []))
    (member (codes "tick") (integer tick) no_members))))))

-- a line, with the text of the step at its place
abbrev pub race_line_json : Line → Data
race_line_json (in_finer_ticks found) = finer_ticks_json found
race_line_json (moved line column moment hair found) = moved_json line column hair found (step_text (moved line column moment hair found))
race_line_json (copies line column name count one other tick) =
    copies_json line column one other tick (step_text (copies line column name count one other tick))

-- how many hairs there are, with how many of them nothing was compared, and how many lines are races
abbrev pub race_counts_json : ℕ → List Line → Data
race_counts_json hairs ls =
    object (member (codes "hairs") (integer hairs) (member (codes "not_tried") (integer (length (lines_that is_hair_not_tried ls)))
    (member (codes "races") (integer (length (lines_that is_race ls))) no_members)))

-- the counts, and the lines that are shown
abbrev pub races_json : ℕ → List Line → Data
races_json hairs ls =
    object (member (codes "counts") (race_counts_json hairs ls)
    (member (codes "lines") (list_of (map race_line_json (lines_that is_shown ls))) no_members))
