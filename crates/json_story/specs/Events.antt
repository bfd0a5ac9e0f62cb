-- The events of a story as JSON objects. Each has its `event`, its `task` and its `tick`, and its data under the names in this
-- file. Each number that says when something happens is a tick.
use Rattle.std.specs.Prelude.{ℕ, ◌+◌, is_some, Option, Some, None, List, map, codes, if◌then◌else◌}
use Rattle.serde_json.specs.Data.{Data, null, boolean, object, Members, no_members, member, put}
use Rattle.input_lines.specs.Lines.{Span}
use Rattle.job_tree.specs.declared.object.Ask.{Ask}
use Rattle.job_tree.specs.declared.object.ObjectKind.{ObjectKind}
use Rattle.job_tree.specs.declared.object.ObjectKind.TheVariants.{Limiter, Channel}
use Rattle.job_report.specs.Text.{ask_word}
use Rattle.exceptions.specs.Exceptions.{Label, Exc}
use Rattle.cancel_scopes.specs.Sight.{Tick}
use Rattle.job_meaning.specs.Log.{Table}
use Rattle.job_meaning.specs.Moments.{tick_of}
use Rattle.job_meaning.specs.declared.clock.Clock.{Clock}
use Rattle.job_meaning.specs.Walk.{Kind, a_scope, a_nursery}
use Rattle.job_story.specs.Story.{During, at_checkpoint, sleeping, waiting_for, in_queue, before_asking, Happening, enters, enters_event, sleeps, is_cancelled, finds, misses, raises, cancels, sets, awaits, was_set, enters_object, queues, gets, finds_closed, deadlocks, gives_token_back, closes_channel, handles, cleans, replaces, waits, leaves}
use Rattle.job_story.specs.Tell.{is_from}
use Rattle.job_story.specs.Events.{What, starts, happens, ends, Event}
use Rattle.job_story.specs.Notes.{Note, all_in_use, no_room, nothing_there, given_back_by, sent_by, closed_by, Notes}
use Rattle.job_story.specs.Causes.{Cause, by_deadline, by_task, by_set, by_failure, by_cancellation, cause_of}
use Rattle.json_story.specs.Values.{integer, word, list_of, text_json, label_json, exc_json}

-- ---- values that may be none

abbrev pub tick_json : Tick → Data
tick_json None = null
tick_json (Some t) = integer t

-- the tick of a moment
abbrev pub moment_json : Clock → Tick → Data
moment_json clock None = null
moment_json clock (Some m) = integer (tick_of clock m)

abbrev pub label_or_null : Option Label → Data
label_or_null None = null
label_or_null (Some l) = label_json l

abbrev pub exc_or_null : Option Exc → Data
exc_or_null None = null
exc_or_null (Some e) = exc_json e

-- ---- why a scope or nursery is cancelled, or an event is set

-- `{"cause":WORD,"task":LABEL,"tick":T}`: what a task did
abbrev pub act_json : List ℕ → Label → ℕ → Data
act_json cause task t =
    object (put (codes "tick") (integer t) (put (codes "task") (label_json task) (put (codes "cause") (word cause) no_members)))

abbrev pub cause_json : Clock → Option Cause → Data
cause_json clock None = null
cause_json clock (Some by_deadline) = object (put (codes "cause") (word (codes "deadline")) no_members)
cause_json clock (Some (by_task task t)) = act_json (codes "cancel") task (tick_of clock t)
cause_json clock (Some (by_set task t)) = act_json (codes "set") task (tick_of clock t)
cause_json clock (Some (by_failure task t)) = act_json (codes "failure") task (tick_of clock t)
cause_json clock (Some (by_cancellation task t)) = act_json (codes "cancellation") task (tick_of clock t)

abbrev pub why_json : Clock → Table → List Event → Option Label → Data
why_json clock table es None = null
why_json clock table es (Some l) = cause_json clock (cause_of table es l)

-- ---- from which moment something is cancelled, or set

-- the next moment, if a label is cancelled or set from then on
abbrev pub next_if : Tick → ℕ → Tick
next_if from t = if is_from from (t + 1) then Some (t + 1) else None

abbrev pub cancel_from : Table → Option Label → ℕ → Tick
cancel_from table None t = None
cancel_from table (Some l) t = next_if (table l) t

-- a nursery whose member or body ends with an exception
abbrev pub failure_from : Table → Option Label → Option Exc → ℕ → Tick
failure_from table home None t = None
failure_from table home (Some e) t = cancel_from table home t

-- ---- what happens

abbrev pub kind_key : Kind → List ℕ
kind_key (a_scope fail) = codes "scope"
kind_key a_nursery = codes "nursery"

-- a line of the input
abbrev pub span_json : Span → Data
span_json line = object (put (codes "length") (integer line.len) (put (codes "at") (integer line.at) no_members))

abbrev pub object_word : ObjectKind → List ℕ
object_word (Limiter tokens) = codes "enters_limiter"
object_word (Channel places) = codes "enters_channel"

abbrev pub happening_word : Happening → List ℕ
happening_word (enters kind label deadline shield) = codes "enters"
happening_word (enters_event label) = codes "enters_event"
happening_word (sleeps until) = codes "sleeps"
happening_word (is_cancelled by during in_cleanup) = codes "cancelled"
happening_word (finds lines) = codes "finds"
happening_word (misses name) = codes "misses"
happening_word (raises name) = codes "raises"
happening_word (cancels label) = codes "cancels"
happening_word (sets label) = codes "sets"
happening_word (awaits event) = codes "waits_for_event"
happening_word (was_set event) = codes "goes_on"
happening_word (enters_object kind label) = object_word kind
happening_word (queues ask label part left) = codes "queues"
happening_word (gets ask label at_once) = codes "is_granted"
happening_word (finds_closed ask label at_once) = codes "finds_closed"
happening_word (deadlocks ask label) = codes "deadlocks"
happening_word (gives_token_back label) = codes "gives_token_back"
happening_word (closes_channel label) = codes "closes"
happening_word (handles matched rest) = codes "handles"
happening_word (cleans exc) = codes "cleanup"
happening_word (replaces lost fresh) = codes "replaces"
happening_word (waits nursery exc) = codes "waits"
happening_word (leaves kind label inside caught outside) = codes "leaves"

-- what is asked of a limiter or channel, and its label
abbrev pub with_ask : Ask → List ℕ → Label → Members → Members
with_ask ask key l ms = put key (label_json l) (put (codes "ask") (word (ask_word ask)) ms)

-- how many tokens a limiter has, or places the buffer of a channel
abbrev pub with_size : ObjectKind → Members → Members
with_size (Limiter tokens) ms = put (codes "tokens") (integer tokens) ms
with_size (Channel places) ms = put (codes "places") (integer places) ms

-- Since when a task slept or waited that is cancelled, or null where it did neither; for which event it waited, if for one; and what it asked
-- of a limiter or channel, or was to ask.
abbrev pub with_during : Clock → During → Members → Members
with_during clock at_checkpoint ms = put (codes "since") null ms
with_during clock (sleeping since) ms = put (codes "since") (integer (tick_of clock since)) ms
with_during clock (waiting_for event since) ms =
    put (codes "waiting_for") (label_json event) (put (codes "since") (integer (tick_of clock since)) ms)
with_during clock (in_queue ask label since) ms =
    with_ask ask (codes "waiting_for") label (put (codes "since") (integer (tick_of clock since)) ms)
with_during clock (before_asking ask label) ms = with_ask ask (codes "before_asking") label (put (codes "since") null ms)

-- the data of what happens in a moment, added to the members that are there
abbrev pub with_happening : Clock → Table → List Event → ℕ → Happening → Members → Members
with_happening clock table es t (enters kind label deadline shield) ms =
    put (codes "shield") (boolean shield) (put (codes "deadline") (moment_json clock deadline) (put (kind_key kind) (label_json label) ms))
with_happening clock table es t (enters_event label) ms = put (codes "label") (label_json label) ms
with_happening clock table es t (sleeps until) ms = put (codes "until") (moment_json clock until) ms
with_happening clock table es t (is_cancelled by during in_cleanup) ms =
    put (codes "in_cleanup") (boolean in_cleanup) (with_during clock during
    (put (codes "why") (why_json clock table es by) (put (codes "by") (label_or_null by) ms)))
with_happening clock table es t (finds lines) ms = put (codes "lines") (list_of (map span_json lines)) ms
with_happening clock table es t (misses name) ms = put (codes "name") (text_json name) ms
with_happening clock table es t (raises name) ms = put (codes "name") (text_json name) ms
with_happening clock table es t (cancels label) ms =
    put (codes "from") (moment_json clock (cancel_from table label t)) (put (codes "label") (label_or_null label) ms)
with_happening clock table es t (sets label) ms =
    put (codes "from") (moment_json clock (cancel_from table label t)) (put (codes "label") (label_or_null label) ms)
with_happening clock table es t (awaits event) ms = put (codes "label") (label_json event) ms
with_happening clock table es t (was_set event) ms = put (codes "label") (label_json event) ms
with_happening clock table es t (enters_object kind label) ms = put (codes "label") (label_json label) (with_size kind ms)
with_happening clock table es t (queues ask label part left) ms = with_ask ask (codes "label") label ms
with_happening clock table es t (gets ask label at_once) ms =
    put (codes "at_once") (boolean (is_some at_once)) (with_ask ask (codes "label") label ms)
with_happening clock table es t (finds_closed ask label at_once) ms =
    put (codes "at_once") (boolean (is_some at_once)) (with_ask ask (codes "label") label ms)
with_happening clock table es t (deadlocks ask label) ms = with_ask ask (codes "label") label ms
with_happening clock table es t (gives_token_back label) ms = put (codes "label") (label_json label) ms
with_happening clock table es t (closes_channel label) ms = put (codes "label") (label_or_null label) ms
with_happening clock table es t (handles matched rest) ms =
    put (codes "rest") (exc_or_null rest) (put (codes "matched") (exc_json matched) ms)
with_happening clock table es t (cleans exc) ms = put (codes "exception") (exc_or_null exc) ms
with_happening clock table es t (replaces lost fresh) ms = put (codes "fresh") (exc_json fresh) (put (codes "lost") (exc_json lost) ms)
with_happening clock table es t (waits nursery exc) ms =
    put (codes "from") (moment_json clock (failure_from table (Some nursery) exc t)) (put (codes "exception") (exc_or_null exc)
    (put (codes "nursery") (label_json nursery) ms))
with_happening clock table es t (leaves kind label inside caught outside) ms =
    put (codes "outside") (exc_or_null outside) (put (codes "caught") (boolean caught) (put (codes "inside") (exc_or_null inside)
    (put (kind_key kind) (label_json label) ms)))

-- ---- events

abbrev pub what_word : What → List ℕ
what_word (starts home part) = codes "starts"
what_word (happens what) = happening_word what
what_word (ends home exc) = codes "ends"

abbrev pub with_what : Clock → Table → List Event → ℕ → What → Members → Members
with_what clock table es t (starts home part) ms = put (codes "nursery") (label_or_null home) ms
with_what clock table es t (happens what) ms = with_happening clock table es t what ms
with_what clock table es t (ends home exc) ms =
    put (codes "from") (moment_json clock (failure_from table home exc t)) (put (codes "exception") (exc_or_null exc)
    (put (codes "nursery") (label_or_null home) ms))

-- what each event has
abbrev pub event_head : Clock → Event → Members
event_head clock e =
    put (codes "event") (word (what_word e.what)) (put (codes "task") (label_json e.task)
    (put (codes "tick") (integer (tick_of clock e.tick)) no_members))

-- what is said of other tasks: the place in a queue, or by which task one goes on
abbrev pub with_note : Option Note → Members → Members
with_note None ms = ms
with_note (Some (all_in_use tokens place)) ms = put (codes "place") (integer place) ms
with_note (Some (no_room place)) ms = put (codes "place") (integer place) ms
with_note (Some (nothing_there place)) ms = put (codes "place") (integer place) ms
with_note (Some (given_back_by task)) ms = put (codes "by") (label_json task) ms
with_note (Some (sent_by task)) ms = put (codes "by") (label_json task) ms
with_note (Some (closed_by task)) ms = put (codes "by") (label_json task) ms

-- an event of a story with these events by a table
abbrev pub event_json : Clock → Table → Notes → List Event → Event → Data
event_json clock table notes es e = object (with_note (notes e) (with_what clock table es e.tick e.what (event_head clock e)))

-- the event that a kernel of a task answered some lines in a tick
abbrev pub found_json : Label → ℕ → List Span → Data
found_json task t lines =
    object (member (codes "event") (word (codes "finds")) (member (codes "lines") (list_of (map span_json lines))
    (member (codes "task") (label_json task) (member (codes "tick") (integer t) no_members))))
