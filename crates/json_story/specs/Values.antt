-- A report as a JSON value. The members of an object are in the order of their keys.
use Rattle.std.specs.Prelude.{ℕ, true, List, [], ◌∷◌, ◌++◌, length, map, codes}
use Rattle.std.specs.List.{flat_map}
use Rattle.serde_json.specs.Data.{Data, null, boolean, number, unsigned, string, array, object, member, no_members}
use Rattle.serde_json.specs.View.{items_of}
use Rattle.serde_json.specs.Written.{compact_text}
use Rattle.exceptions.specs.Exceptions.{Label, Whose, by_nursery, by_handler, Exc, cancelled, raised, too_slow, group, Excs, no_parts, part}
use Rattle.job_meaning.specs.Shown.{Shown, line_shown, scope_shown, nursery_shown, wait_shown, grant_shown, Ending, well, by_cancellation, with_exception, Row}
use Rattle.job_report.specs.Text.{ask_word, byte_text, last_tick}
use Rattle.exceptions.specs.Texts.{index_text}

abbrev pub integer : ℕ → Data
integer n = number (unsigned n)

abbrev pub word : List ℕ → Data
word text = string text

abbrev pub list_of : List Data → Data
list_of values = array (items_of values)

-- bytes as a report shows them
abbrev pub text_json : List ℕ → Data
text_json bytes = string (flat_map byte_text bytes)

-- a label: its name, and a dot and the index for each index
abbrev pub label_json : Label → Data
label_json l = string (flat_map byte_text l.name ++ flat_map index_text l.indices)

-- ---- exceptions

abbrev pub whose_json : Whose → Data
whose_json (by_nursery label) = label_json label
whose_json by_handler = word (codes "*")

-- `{"cancelled":true}`, `{"raised":NAME,"task":LABEL,"tick":T}`, `{"tick":T,"too_slow":LABEL}` or `{"group":LABEL,"parts":[..]}`
abbrev mutual
  pub exc_json : Exc → Data
  exc_json cancelled = object (member (codes "cancelled") (boolean true) no_members)
  exc_json (raised name task tick) =
      object (member (codes "raised") (text_json name) (member (codes "task") (label_json task)
      (member (codes "tick") (integer tick) no_members)))
  exc_json (too_slow scope tick) =
      object (member (codes "tick") (integer tick) (member (codes "too_slow") (label_json scope) no_members))
  exc_json (group whose parts) =
      object (member (codes "group") (whose_json whose) (member (codes "parts") (list_of (parts_json parts)) no_members))

  pub parts_json : Excs → List Data
  parts_json no_parts = []
  parts_json (part e es) = exc_json e ∷ parts_json es

-- ---- records

-- how a task ended, in a word
abbrev pub outcome_json : Ending → Data
outcome_json well = word (codes "done")
outcome_json by_cancellation = word (codes "cancelled")
outcome_json (with_exception e) = word (codes "raised")

-- and with which exception, or `null`
abbrev pub exception_json : Ending → Data
exception_json well = null
exception_json by_cancellation = exc_json cancelled
exception_json (with_exception e) = exc_json e

-- `{"line":{"at":N,"length":N,"text":TEXT}}`, or `{"caught":B,"exit":T,"scope":LABEL}`, or the same with `nursery`, or
-- `{"tick":T,"wait":LABEL}`, or `{"acquire":LABEL,"tick":T}`, or the same with `send` or `receive`
abbrev pub entry_json : Shown → Data
entry_json (line_shown at text) =
    object (member (codes "line") (object (member (codes "at") (integer at) (member (codes "length") (integer (length text))
    (member (codes "text") (text_json text) no_members)))) no_members)
entry_json (scope_shown label tick caught) =
    object (member (codes "caught") (boolean caught) (member (codes "exit") (integer tick)
    (member (codes "scope") (label_json label) no_members)))
entry_json (nursery_shown label tick caught) =
    object (member (codes "caught") (boolean caught) (member (codes "exit") (integer tick)
    (member (codes "nursery") (label_json label) no_members)))
entry_json (wait_shown label tick) = object (member (codes "tick") (integer tick) (member (codes "wait") (label_json label) no_members))
entry_json (grant_shown ask label tick) =
    object (member (ask_word ask) (label_json label) (member (codes "tick") (integer tick) no_members))

abbrev pub row_json : Row → Data
row_json r =
    object (member (codes "end") (integer r.end) (member (codes "entries") (list_of (map entry_json r.entries))
    (member (codes "exception") (exception_json r.ending) (member (codes "outcome") (outcome_json r.ending)
    (member (codes "start") (integer r.start) (member (codes "task") (label_json r.label) no_members))))))

-- ---- the document

-- a report: the job, the tick at which its root ended, and its tasks
abbrev pub report_json : List ℕ → List Row → Data
report_json name rows =
    object (member (codes "end") (integer (last_tick rows)) (member (codes "job") (text_json name)
    (member (codes "tasks") (list_of (map row_json rows)) no_members)))

-- a JSON text and a newline
abbrev pub document : Data → List ℕ
document value = compact_text value ++ codes "\n"
