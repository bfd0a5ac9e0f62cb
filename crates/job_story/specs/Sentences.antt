-- The text of a story.
use Rattle.std.specs.Prelude.{ℕ, ◌+◌, ◌-◌, ◌==◌, Bool, true, false, Option, Some, None, is_none, List, [], ◌∷◌, ◌++◌, length, codes, decimal, max, if◌then◌else◌, replicate}
use Rattle.exceptions.specs.Exceptions.{Label, Exc}
use Rattle.exceptions.specs.Texts.{label_text, exc_text, end_text}
use Rattle.exceptions.specs.Split.{is_cancelled as by_cancelled, drop}
use Rattle.cancel_scopes.specs.Sight.{Tick}
use Rattle.job_tree.specs.declared.object.Ask.{Ask}
use Rattle.job_tree.specs.declared.object.Ask.TheVariants.{Acquire, Send, Receive}
use Rattle.job_tree.specs.declared.object.ObjectKind.{ObjectKind}
use Rattle.job_tree.specs.declared.object.ObjectKind.TheVariants.{Limiter, Channel}
use Rattle.job_tree.specs.Tree.{Tree}
use Rattle.job_meaning.specs.Log.{Table}
use Rattle.job_meaning.specs.Meaning.{root_label}
use Rattle.job_meaning.specs.Tables.{Tables}
use Rattle.job_meaning.specs.Moments.{clock_of, tick_of}
use Rattle.job_meaning.specs.declared.clock.Clock.{Clock}
use Rattle.job_meaning.specs.Walk.{Kind, a_scope, a_nursery}
use Rattle.job_story.specs.Story.{During, at_checkpoint, sleeping, waiting_for, in_queue, before_asking, Asked, Happening, enters, enters_event, sleeps, is_cancelled, finds, misses, raises, cancels, sets, awaits, was_set, enters_object, queues, gets, finds_closed, deadlocks, gives_token_back, closes_channel, handles, cleans, replaces, waits, leaves}
use Rattle.job_story.specs.Tell.{is_from, story_by}
use Rattle.job_story.specs.Events.{What, starts, happens, ends, Event, events_of, in_order}
use Rattle.job_story.specs.Notes.{Note, all_in_use, no_room, nothing_there, given_back_by, sent_by, closed_by, Notes, notes_in}
use Rattle.job_story.specs.Causes.{Cause, by_deadline, by_task, by_set, by_failure, by_cancellation, Entering, entering_of, cause_of}

-- ---- sentences, in which each number is a tick

abbrev pub kind_text : Kind → List ℕ
kind_text (a_scope fail) = codes "scope "
kind_text a_nursery = codes "nursery "

-- the text of an exception between two others, where there is one
abbrev pub with_exc : List ℕ → Option Exc → List ℕ → List ℕ
with_exc before None after = []
with_exc before (Some e) after = before ++ exc_text e ++ after

abbrev pub entering_text : Clock → Tick → Bool → List ℕ
entering_text clock None false = []
entering_text clock None true = codes " (shielded)"
entering_text clock (Some d) false = codes " (deadline " ++ decimal (tick_of clock d) ++ codes ")"
entering_text clock (Some d) true = codes " (deadline " ++ decimal (tick_of clock d) ++ codes ", shielded)"

abbrev pub until_text : Clock → Tick → List ℕ
until_text clock None = codes "forever"
until_text clock (Some t) = codes "until " ++ decimal (tick_of clock t)

-- what is asked of a limiter or channel
abbrev pub ask_text : Ask → Label → List ℕ
ask_text Acquire object = codes "for a token of " ++ label_text object
ask_text Send object = codes "to send to " ++ label_text object
ask_text Receive object = codes "to receive from " ++ label_text object

abbrev pub during_text : Clock → During → List ℕ
during_text clock at_checkpoint = codes " at a checkpoint"
during_text clock (sleeping since) = codes " while sleeping since " ++ decimal (tick_of clock since)
during_text clock (waiting_for event since) =
    codes " while waiting for event " ++ label_text event ++ codes " since " ++ decimal (tick_of clock since)
during_text clock (in_queue ask object since) =
    codes " while waiting " ++ ask_text ask object ++ codes " since " ++ decimal (tick_of clock since)
during_text clock (before_asking ask object) = codes " before it asks " ++ ask_text ask object

abbrev pub cleanup_text : Bool → List ℕ
cleanup_text true = codes " during cleanup"
cleanup_text false = []

abbrev pub cause_text : Clock → Option Cause → List ℕ
cause_text clock None = []
cause_text clock (Some by_deadline) = codes " (deadline)"
cause_text clock (Some (by_task task t)) = codes " (cancelled by " ++ label_text task ++ codes " at " ++ decimal (tick_of clock t) ++ codes ")"
cause_text clock (Some (by_set task t)) = codes " (set by " ++ label_text task ++ codes " at " ++ decimal (tick_of clock t) ++ codes ")"
cause_text clock (Some (by_failure task t)) = codes " (" ++ label_text task ++ codes " failed at " ++ decimal (tick_of clock t) ++ codes ")"
cause_text clock (Some (by_cancellation task t)) = codes " (" ++ label_text task ++ codes " was cancelled at " ++ decimal (tick_of clock t) ++ codes ")"

-- the label of a scope or nursery, after the word for its kind
abbrev pub entered_text : Option Entering → Label → List ℕ
entered_text None l = label_text l
entered_text (Some e) l = kind_text e.kind ++ label_text l

abbrev pub count_text : ℕ → List ℕ
count_text n = if n == 0 then codes "no line" else decimal n ++ (if n == 1 then codes " line" else codes " lines")

-- what propagates where a cancellation was caught: the rest of the exception, or a `TooSlow` where nothing is left
abbrev pub caught_text : Option Exc → Option Exc → List ℕ
caught_text left None = []
caught_text None (Some e) = codes ", raises " ++ exc_text e
caught_text (Some x) (Some e) = codes ", " ++ exc_text e ++ codes " propagates"

abbrev pub leaving_text : Option Exc → Bool → Option Exc → List ℕ
leaving_text None caught outside = codes "completed"
leaving_text (Some e) false outside = exc_text e ++ codes " propagates"
leaving_text (Some e) true outside = codes "cancellation caught" ++ caught_text (drop by_cancelled e) outside

-- that a nursery is cancelled from the next moment on, if the table says so
abbrev pub from_text : Clock → Table → Label → ℕ → List ℕ
from_text clock table l t =
    if is_from (table l) (t + 1) then codes "; nursery " ++ label_text l ++ codes " is cancelled from " ++ decimal (tick_of clock (t + 1)) else []

-- A task that ends with an exception cancels its nursery. Where each leaf of the exception is `Cancelled` this is not said: the nursery
-- is cancelled already, or something around it is.
abbrev pub sign_text : Clock → Table → Option Label → Option Exc → ℕ → List ℕ
sign_text clock table None e t = []
sign_text clock table (Some l) None t = []
sign_text clock table (Some l) (Some e) t = if is_none (drop by_cancelled e) then [] else from_text clock table l t

-- a `cancel` of a scope or nursery that is already cancelled changes nothing
abbrev pub cancel_text : Clock → Table → List Event → Option Label → ℕ → List ℕ
cancel_text clock table es None t = []
cancel_text clock table es (Some l) t =
    codes "cancels " ++ entered_text (entering_of l es) l
    ++ (if is_from (table l) (t + 1) then codes " from " ++ decimal (tick_of clock (t + 1)) else codes ", which is cancelled already")

-- a `set` of an event that is already set changes nothing
abbrev pub set_text : Table → Option Label → ℕ → List ℕ
set_text table None t = []
set_text table (Some l) t =
    codes "sets event " ++ label_text l ++ (if is_from (table l) (t + 1) then [] else codes ", which is set already")

-- a limiter with its tokens, or a channel with the places of its buffer
abbrev pub object_text : ObjectKind → Label → List ℕ
object_text (Limiter n) l = codes "limiter " ++ label_text l ++ codes " (" ++ decimal n ++ (if n == 1 then codes " token)" else codes " tokens)")
object_text (Channel n) l = codes "channel " ++ label_text l ++ codes " (" ++ decimal n ++ (if n == 1 then codes " place)" else codes " places)")

-- a token that is there at once is said to be, since the task does not wait for it
abbrev pub at_once_text : Option Asked → List ℕ
at_once_text None = []
at_once_text (Some asked) = codes " at once"

abbrev pub gets_text : Ask → Label → Option Asked → List ℕ
gets_text Acquire object at_once = codes "gets a token of " ++ label_text object ++ at_once_text at_once
gets_text Send object at_once = codes "sends to " ++ label_text object
gets_text Receive object at_once = codes "receives from " ++ label_text object

abbrev pub closed_text : Ask → Label → List ℕ
closed_text Acquire object = codes "finds " ++ label_text object ++ codes " closed"
closed_text Send object = codes "finds " ++ label_text object ++ codes " closed"
closed_text Receive object = codes "finds " ++ label_text object ++ codes " closed and empty"

abbrev pub close_text : Option Label → List ℕ
close_text None = []
close_text (Some l) = codes "closes " ++ label_text l

abbrev pub cancelled_text : Clock → Table → List Event → Option Label → List ℕ
cancelled_text clock table es None = []
cancelled_text clock table es (Some l) = codes " by " ++ entered_text (entering_of l es) l ++ cause_text clock (cause_of table es l)

abbrev pub happening_text : Clock → Table → List Event → ℕ → Happening → List ℕ
happening_text clock table es t (enters kind label deadline shield) =
    codes "enters " ++ kind_text kind ++ label_text label ++ entering_text clock deadline shield
happening_text clock table es t (enters_event label) = codes "enters event " ++ label_text label
happening_text clock table es t (sleeps until) = codes "sleeps " ++ until_text clock until
happening_text clock table es t (is_cancelled by during in_cleanup) =
    codes "is cancelled" ++ cleanup_text in_cleanup ++ during_text clock during ++ cancelled_text clock table es by
happening_text clock table es t (finds lines) = codes "finds " ++ count_text (length lines)
happening_text clock table es t (misses name) = codes "finds no line and raises " ++ name
happening_text clock table es t (raises name) = codes "raises " ++ name
happening_text clock table es t (cancels label) = cancel_text clock table es label t
happening_text clock table es t (sets label) = set_text table label t
happening_text clock table es t (awaits event) = codes "waits for event " ++ label_text event
happening_text clock table es t (was_set event) = codes "goes on: event " ++ label_text event ++ codes " was set"
happening_text clock table es t (enters_object kind label) = codes "enters " ++ object_text kind label
happening_text clock table es t (queues ask object lent left) = codes "waits " ++ ask_text ask object
happening_text clock table es t (gets ask object at_once) = gets_text ask object at_once
happening_text clock table es t (finds_closed ask object at_once) = closed_text ask object
happening_text clock table es t (deadlocks ask object) =
    codes "has waited " ++ ask_text ask object ++ codes " as long as forever, and raises Deadlock"
happening_text clock table es t (gives_token_back object) = codes "gives its token of " ++ label_text object ++ codes " back"
happening_text clock table es t (closes_channel object) = close_text object
happening_text clock table es t (handles matched rest) = codes "handles " ++ exc_text matched ++ with_exc (codes ", ") rest (codes " propagates")
happening_text clock table es t (cleans exc) = codes "runs cleanup" ++ with_exc (codes " after ") exc []
happening_text clock table es t (replaces lost fresh) = codes "replaces " ++ exc_text lost ++ codes " with " ++ exc_text fresh
happening_text clock table es t (waits nursery exc) =
    codes "waits for nursery " ++ label_text nursery ++ with_exc (codes " after ") exc [] ++ sign_text clock table (Some nursery) exc t
happening_text clock table es t (leaves kind label inside caught outside) =
    codes "leaves " ++ kind_text kind ++ label_text label ++ codes ": " ++ leaving_text inside caught outside

-- ---- what is said of other tasks

abbrev pub ordinal_text : ℕ → List ℕ
ordinal_text place =
    if place == 1 then codes "first"
    else if place == 2 then codes "second"
    else if place == 3 then codes "third"
    else if place == 4 then codes "fourth"
    else if place == 5 then codes "fifth"
    else if place == 6 then codes "sixth"
    else if place == 7 then codes "seventh"
    else if place == 8 then codes "eighth"
    else if place == 9 then codes "ninth"
    else if place == 10 then codes "tenth"
    else codes "number " ++ decimal place

abbrev pub place_text : ℕ → List ℕ
place_text place = ordinal_text place ++ codes " in the queue"

-- who is first in the queue of a channel is not said to be
abbrev pub later_place_text : ℕ → List ℕ
later_place_text place = if place == 1 then [] else codes ", " ++ place_text place

abbrev pub note_text : Option Note → List ℕ
note_text None = []
note_text (Some (all_in_use tokens place)) =
    (codes " (" ++ decimal tokens ++ codes " of " ++ decimal tokens ++ codes " in use, ") ++ place_text place ++ codes ")"
note_text (Some (no_room place)) = codes " (full" ++ later_place_text place ++ codes ")"
note_text (Some (nothing_there place)) = codes " (empty" ++ later_place_text place ++ codes ")"
note_text (Some (given_back_by task)) = codes " (given back by " ++ label_text task ++ codes ")"
note_text (Some (sent_by task)) = codes " (sent by " ++ label_text task ++ codes ")"
note_text (Some (closed_by task)) = codes " (closed by " ++ label_text task ++ codes ")"

abbrev pub home_text : Option Label → List ℕ
home_text None = []
home_text (Some l) = codes " in nursery " ++ label_text l

abbrev pub what_text : Clock → Table → List Event → ℕ → What → List ℕ
what_text clock table es t (starts home lent) = codes "starts" ++ home_text home
what_text clock table es t (happens what) = happening_text clock table es t what
what_text clock table es t (ends home exc) = codes "ends: " ++ end_text exc ++ sign_text clock table home exc t

-- ---- lines

-- the length of the longest label
abbrev pub label_width : List Event → ℕ
label_width [] = 0
label_width (e ∷ es) = max (length (label_text e.task)) (label_width es)

abbrev pub padded_text : ℕ → List ℕ → List ℕ
padded_text width text = text ++ replicate (width - length text) 32

-- the sentence of an event, with what is said of other tasks
abbrev pub sentence_text : Clock → Table → Notes → List Event → Event → List ℕ
sentence_text clock table notes es e = what_text clock table es e.tick e.what ++ note_text (notes e)

abbrev pub line_text : Clock → Table → Notes → List Event → ℕ → Event → List ℕ
line_text clock table notes es width e =
    codes "  " ++ padded_text width (label_text e.task) ++ codes "  " ++ sentence_text clock table notes es e ++ codes "\n"

-- a line for a tick, where the event before is of another tick, which is given; a line for each event of the tick follows
abbrev pub tick_text : Clock → Tick → ℕ → List ℕ
tick_text clock before t = if is_from before (tick_of clock t) then [] else codes "tick " ++ decimal (tick_of clock t) ++ codes "\n"

abbrev pub lines_text : Clock → Table → Notes → List Event → ℕ → Tick → List Event → List ℕ
lines_text clock table notes es width before [] = []
lines_text clock table notes es width before (e ∷ rest) =
    tick_text clock before e.tick ++ line_text clock table notes es width e
    ++ lines_text clock table notes es width (Some (tick_of clock e.tick)) rest

-- the events of a job by two tables, in order
abbrev pub job_events : Tables → Tree → List ℕ → List Event
job_events k job input = in_order (events_of (root_label job.name) (story_by k job input))

-- what they say of one another
abbrev pub job_notes : Tables → Tree → List ℕ → Notes
job_notes k job input = notes_in (events_of (root_label job.name) (story_by k job input))

-- the text of selected events of a story, of which `all` has all events
abbrev pub kept_text : Clock → Table → Notes → List Event → List Event → List ℕ
kept_text clock table notes all kept = lines_text clock table notes all (label_width kept) None kept

abbrev pub events_text : Clock → Table → Notes → List Event → List ℕ
events_text clock table notes es = kept_text clock table notes es es

-- the text of a job's story by two tables
abbrev pub story_text : Tables → Tree → List ℕ → List ℕ
story_text k job input = events_text (clock_of job.format) k.cancelled_from (job_notes k job input) (job_events k job input)
