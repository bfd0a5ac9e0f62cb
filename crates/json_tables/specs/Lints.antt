-- The probable mistakes in a job text, as a JSON value.
use Rattle.std.specs.Prelude.{ℕ, Option, Some, None, List, length, map, codes}
use Rattle.serde_json.specs.Data.{Data, null, object, member, no_members}
use Rattle.basics.specs.Places.{line_of, column_of}
use Rattle.job_lint.specs.Sentences.{sentence_of}
use Rattle.job_lint.specs.declared.warning.Lint.{Lint}
use Rattle.job_lint.specs.declared.warning.Lint.TheVariants.{Unreachable, ExposedWait, RaiseInCleanup, ShieldWithoutDeadline, IdleScope, IdleHandler, UnsetEvent, UnawaitedEvent, UnusedLimiter, OrderInversion, UnsentChannel, UnreceivedChannel, UnclosedChannel, LateCancel}
use Rattle.job_lint.specs.declared.warning.Warning.{Warning}
use Rattle.json_story.specs.Values.{integer, word, list_of, text_json}

-- the kind of a mistake, in one word
abbrev pub kind_word : Lint → List ℕ
kind_word Unreachable = codes "unreachable"
kind_word ExposedWait = codes "exposed_wait"
kind_word RaiseInCleanup = codes "raise_in_cleanup"
kind_word ShieldWithoutDeadline = codes "shield_without_deadline"
kind_word IdleScope = codes "idle_scope"
kind_word IdleHandler = codes "idle_handler"
kind_word UnsetEvent = codes "unset_event"
kind_word UnawaitedEvent = codes "unawaited_event"
kind_word UnusedLimiter = codes "unused_limiter"
kind_word OrderInversion = codes "order_inversion"
kind_word UnsentChannel = codes "unsent_channel"
kind_word UnreceivedChannel = codes "unreceived_channel"
kind_word UnclosedChannel = codes "unclosed_channel"
kind_word LateCancel = codes "late_cancel"

abbrev pub name_or_null : Option (List ℕ) → Data
name_or_null None = null
name_or_null (Some name) = text_json name

-- `{"at":N,"column":N,"kind":WORD,"line":N,"name":NAME,"sentence":TEXT}`, with the line and the column in the job text
abbrev pub warning_json : List ℕ → Warning → Data
warning_json text w =
    object (member (codes "at") (integer w.at) (member (codes "column") (integer (column_of text w.at))
    (member (codes "kind") (word (kind_word w.lint)) (member (codes "line") (integer (line_of text w.at))
    (member (codes "name") (name_or_null w.name) (member (codes "sentence") (text_json (sentence_of w)) no_members))))))

-- how many warnings there are
abbrev pub warning_counts_json : List Warning → Data
warning_counts_json ws = object (member (codes "warnings") (integer (length ws)) no_members)

-- the count, and each warning about the job of a text
abbrev pub lints_json : List ℕ → List Warning → Data
lints_json text ws =
    object (member (codes "counts") (warning_counts_json ws) (member (codes "lines") (list_of (map (warning_json text) ws)) no_members))
