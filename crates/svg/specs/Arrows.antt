-- Arrows from the task that cancelled something to what it cancelled, and from the task that set an event, gave a token back, sent something or
-- closed a channel to the waits that end then, and the marks of deadlines.
use Rattle.std.specs.Prelude.{ℕ, zero, suc, ◌+◌, ◌-◌, ◌==◌, ◌&&◌, Bool, false, Option, Some, None, is_none, List, [], ◌∷◌, ◌++◌, codes, decimal, nat_le, if◌then◌else◌}
use Rattle.exceptions.specs.Exceptions.{Label}
use Rattle.job_meaning.specs.Log.{same_label}
use Rattle.job_meaning.specs.Moments.{tick_of}
use Rattle.job_meaning.specs.declared.clock.Clock.{Clock}
use Rattle.job_story.specs.Story.{enters, is_cancelled, was_set, gets, finds_closed}
use Rattle.job_story.specs.Tell.{is_from}
use Rattle.job_story.specs.Events.{What, happens, Event}
use Rattle.job_story.specs.Limit.{is_start}
use Rattle.job_story.specs.Causes.{Cause, by_deadline, by_task, by_set, by_failure, by_cancellation, cause_of}
use Rattle.job_story.specs.Notes.{Note, given_back_by, sent_by, closed_by}
use Rattle.chart.specs.Bars.{Bar}
use Rattle.svg.specs.Content.{Content, nothing, text, element, Attribute, attribute}
use Rattle.svg.specs.declared.names.Tag.TheVariants as tags
use Rattle.svg.specs.declared.names.Attr.TheVariants as attrs
use Rattle.svg.specs.Sheets.{Sheet, x_of, x_by, middle_of, events_title}
use Rattle.svg.specs.Rows.{used}
use Rattle.svg.specs.declared.culprits.TheConstants.{MAX_DEPTH}

-- the task that cancelled or set something, and the moment in which it did
pub record Source : Type 0 where
  pub task : Label
  pub tick : ℕ

-- the task of a cause, or `None` where the cause is a deadline, or a task that was itself merely cancelled
abbrev pub source_of : Option Cause → Option Source
source_of None = None
source_of (Some by_deadline) = None
source_of (Some (by_task task m)) = Some (record { task = task; tick = m })
source_of (Some (by_set task m)) = Some (record { task = task; tick = m })
source_of (Some (by_failure task m)) = Some (record { task = task; tick = m })
source_of (Some (by_cancellation task m)) = None

-- the events in a moment
abbrev pub at_moment : ℕ → List Event → List Event
at_moment m [] = []
at_moment m (e ∷ es) = if e.tick == m then e ∷ at_moment m es else at_moment m es

-- a line from one point to another
abbrev pub segment : List ℕ → ℕ → ℕ → ℕ → ℕ → List Attribute
segment class x1 y1 x2 y2 =
    attribute attrs.Class class
    ∷ attribute attrs.X1 (decimal x1)
    ∷ attribute attrs.Y1 (decimal y1)
    ∷ attribute attrs.X2 (decimal x2)
    ∷ attribute attrs.Y2 (decimal y2)
    ∷ []

-- an arrow from row j, whose task has these events, to this x coordinate of row i; it begins where the source acted
abbrev pub arrow : Sheet → ℕ → ℕ → Source → ℕ → List Event → Content → Content
arrow sheet i x source j own rest =
    element tags.Line (segment (codes "arrow") (x_of sheet source.tick) (middle_of j) x (middle_of i))
    (events_title sheet (at_moment source.tick own)) rest

-- an arrow from the first of these rows that is the task's, if there is one
abbrev pub arrow_from : Sheet → ℕ → ℕ → Source → ℕ → List Bar → Content → Content
arrow_from sheet i x source j [] rest = rest
arrow_from sheet i x source j (b ∷ bs) rest =
    if is_start b.first.what && same_label source.task b.first.task then arrow sheet i x source j b.own rest
    else arrow_from sheet i x source (j + 1) bs rest

abbrev pub arrow_by : Sheet → List Bar → ℕ → ℕ → Option Source → Content → Content
arrow_by sheet all i x None rest = rest
arrow_by sheet all i x (Some source) rest = arrow_from sheet i x source 0 all rest

-- ---- what cancelled a task that was merely cancelled

-- the scope or nursery whose cancellation a task saw with this event, or else the one that was found before
abbrev pub canceller_by : Option Label → What → Option Label
canceller_by found (happens (is_cancelled by during in_cleanup)) = by
canceller_by found _ = found

-- the scope or nursery whose cancellation a task saw last by this moment, in these events or before
abbrev pub canceller : ℕ → Option Label → List Event → Option Label
canceller m found [] = found
canceller m found (e ∷ es) = canceller m (if nat_le e.tick m then canceller_by found e.what else found) es

-- the events of a task, by the first of these bars that is its own
abbrev pub own_of : List Bar → Label → List Event
own_of [] task = []
own_of (b ∷ bs) task = if is_start b.first.what && same_label task b.first.task then b.own else own_of bs task

abbrev pub cause_of_label : Sheet → Option Label → Option Cause
cause_of_label sheet None = None
cause_of_label sheet (Some label) = cause_of sheet.table sheet.events label

-- a cause, or, where that is a task that was merely cancelled, why the scope or nursery is cancelled that cancelled the task
abbrev pub cause_behind : Sheet → List Bar → Option Cause → Option Cause
cause_behind sheet all None = None
cause_behind sheet all (Some by_deadline) = Some by_deadline
cause_behind sheet all (Some (by_task task m)) = Some (by_task task m)
cause_behind sheet all (Some (by_set task m)) = Some (by_set task m)
cause_behind sheet all (Some (by_failure task m)) = Some (by_failure task m)
cause_behind sheet all (Some (by_cancellation task m)) = cause_of_label sheet (canceller m None (own_of all task))

-- The task that cancelled something, where so many tasks at most were merely cancelled by one another. What cancels a task lies around
-- the nursery that its end cancels, and blocks are nested at most `MAX_DEPTH` deep.
unfoldable pub culprit : Sheet → List Bar → ℕ → Option Cause → Option Source
culprit sheet all zero cause = source_of cause
culprit sheet all (suc k) cause = culprit sheet all k (cause_behind sheet all cause)

-- ---- to what is cancelled

-- the title of the mark of a deadline
abbrev pub deadline_title : Clock → ℕ → Content
deadline_title clock m = element tags.Title [] (text (codes "deadline " ++ decimal (tick_of clock m)) nothing) nothing

-- a mark on a scope or nursery that its own deadline cancelled, or else an arrow to it from the task that cancelled it
abbrev pub cancelled_at : Sheet → List Bar → ℕ → ℕ → Option Cause → Content → Content
cancelled_at sheet all i m (Some by_deadline) rest =
    element tags.Use (used (codes "#deadline") (x_by sheet m) (middle_of i)) (deadline_title sheet.clock m) rest
cancelled_at sheet all i m cause rest = arrow_by sheet all i (x_by sheet m) (culprit sheet all MAX_DEPTH cause) rest

-- the mark on a scope or nursery, or the arrow to it, where it is cancelled from this moment on
abbrev pub arrow_at : Sheet → List Bar → ℕ → What → Option ℕ → Content → Content
arrow_at sheet all i (happens (enters kind label deadline shield)) (Some m) rest =
    cancelled_at sheet all i m (cause_of sheet.table sheet.events label) rest
arrow_at sheet all i _ _ rest = rest

-- ---- to waits

-- the event of the job that is set, where a task goes on because of that
abbrev pub event_set : What → Option Label
event_set (happens (was_set event)) = Some event
event_set _ = None

-- a source that is another task than this one
abbrev pub beside : Label → Option Source → Option Source
beside task None = None
beside task (Some source) = if same_label task source.task then None else Some source

-- An arrow to the wait for an event of a task that ends in moment m, from the task that set the event, where it is set from that very moment
-- on. A task that waits for what it has set itself has no arrow.
abbrev pub set_arrow : Sheet → List Bar → ℕ → Label → ℕ → Option Label → Content → Content
set_arrow sheet all i task m None rest = rest
set_arrow sheet all i task m (Some event) rest =
    if is_from (sheet.table event) m
    then arrow_by sheet all i (x_of sheet m) (beside task (source_of (cause_of sheet.table sheet.events event))) rest
    else rest

-- whether a task goes on that waited in the queue of a limiter or channel
abbrev pub leaves_queue : What → Bool
leaves_queue (happens (gets ask object at_once)) = is_none at_once
leaves_queue (happens (finds_closed ask object at_once)) = is_none at_once
leaves_queue _ = false

-- The task that ended a wait in a queue, as the story notes it. The task that sends goes on in the same moment as the one that receives. A token
-- is given back, and a channel is closed, in the moment before.
abbrev pub noted_source : ℕ → Option Note → Option Source
noted_source m (Some (given_back_by task)) = Some (record { task = task; tick = m - 1 })
noted_source m (Some (sent_by task)) = Some (record { task = task; tick = m })
noted_source m (Some (closed_by task)) = Some (record { task = task; tick = m - 1 })
noted_source m _ = None

-- an arrow to the wait of a task in a queue that ends with this event, from the task that ended it, unless that is the task itself
abbrev pub queue_arrow : Sheet → List Bar → ℕ → Event → Content → Content
queue_arrow sheet all i e rest =
    if leaves_queue e.what
    then arrow_by sheet all i (x_of sheet e.tick) (beside e.task (noted_source e.tick (sheet.notes e))) rest
    else rest

-- the arrow to the wait that ends with this event, if one does, and another task ended it
abbrev pub wait_arrow : Sheet → List Bar → ℕ → Event → Content → Content
wait_arrow sheet all i e rest = set_arrow sheet all i e.task e.tick (event_set e.what) (queue_arrow sheet all i e rest)

abbrev pub wait_arrows : Sheet → List Bar → ℕ → List Event → Content → Content
wait_arrows sheet all i [] rest = rest
wait_arrows sheet all i (e ∷ es) rest = wait_arrow sheet all i e (wait_arrows sheet all i es rest)

-- ---- all of them

-- the arrows to a row: to its scope or nursery, or to the waits of its task
abbrev pub arrows_to : Sheet → List Bar → ℕ → Bar → Content → Content
arrows_to sheet all i b rest = arrow_at sheet all i b.first.what b.cancelled (wait_arrows sheet all i b.own rest)

abbrev pub arrows : Sheet → List Bar → ℕ → List Bar → Content → Content
arrows sheet all i [] rest = rest
arrows sheet all i (b ∷ bs) rest = arrows_to sheet all i b (arrows sheet all (i + 1) bs rest)
