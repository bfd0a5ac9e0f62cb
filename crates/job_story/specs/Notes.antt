-- What a story says of other tasks where a task asks something of a limiter or channel: its place in the queue, and by whom it goes on.
use Rattle.std.specs.Prelude.{ℕ, ◌+◌, ◌-◌, ◌==◌, ◌&&◌, Bool, true, false, Option, Some, None, is_none, List, [], ◌∷◌, ◌++◌, length, nat_le, if◌then◌else◌}
use Rattle.std.specs.Bool.{beq}
use Rattle.std.specs.List.{position_from, slice_get}
use Rattle.std.specs.Option.{option_map, unwrap_or}
use Rattle.basics.specs.Sorting.{sorted_by}
use Rattle.job_tree.specs.declared.object.Ask.{Ask}
use Rattle.job_tree.specs.declared.object.Ask.TheVariants.{Acquire, Send, Receive}
use Rattle.job_tree.specs.declared.object.ObjectKind.{ObjectKind}
use Rattle.job_tree.specs.declared.object.ObjectKind.TheVariants.{Limiter, Channel}
use Rattle.exceptions.specs.Exceptions.{Label}
use Rattle.job_meaning.specs.Log.{same_label}
use Rattle.job_story.specs.Story.{in_queue, Happening, is_cancelled, enters_object, queues, gets, finds_closed, deadlocks, gives_token_back, closes_channel}
use Rattle.job_story.specs.Events.{What, starts, happens, ends, is_start, Event}

-- What is said: a task waits for a token while all of so many are in use, to send since there is no room, or to receive since there is nothing,
-- each in its place in the queue, from 1. It gets the token that a task gave back, or receives what a task sent, or finds the channel closed by
-- a task.
pub data Note : Type 0 where
  all_in_use : (tokens place : ℕ) → Note
  no_room : (place : ℕ) → Note
  nothing_there : (place : ℕ) → Note
  given_back_by : (task : Label) → Note
  sent_by : (task : Label) → Note
  closed_by : (task : Label) → Note

-- ---- what tasks do at limiters and channels

-- A task joins the queue of those who ask the same, or leaves it, with what it asked or without; what it asked is granted; its token comes back;
-- it closes the channel.
pub data Move : Type 0 where
  joins : (ask : Ask) → Move
  goes : (ask : Ask) → Move
  is_granted : (ask : Ask) → Move
  gives_back : Move
  closes : Move

-- A move in the event of this number in the walk, in a moment, by a task that has this place in the order of records. What is granted counts
-- in the moment in which it was asked.
pub record Turn : Type 0 where
  pub event : ℕ
  pub record_place : ℕ
  pub task : Label
  pub object : Label
  pub moment : ℕ
  pub move : Move

abbrev pub turn : (i place : ℕ) → Label → Label → ℕ → Move → Turn
turn i place task object moment move =
    record { event = i; record_place = place; task = task; object = object; moment = moment; move = move }

-- Who joined a queue did so by the event before in the walk, whose moment is given.
abbrev pub turns_by : (i place joined : ℕ) → Label → ℕ → What → List Turn
turns_by i place joined task t (happens (queues ask object part left)) = turn i place task object t (joins ask) ∷ []
turns_by i place joined task t (happens (gets ask object None)) =
    turn i place task object t (goes ask) ∷ turn i place task object joined (is_granted ask) ∷ []
turns_by i place joined task t (happens (gets ask object (Some asked))) = turn i place task object asked.since (is_granted ask) ∷ []
turns_by i place joined task t (happens (finds_closed ask object None)) = turn i place task object t (goes ask) ∷ []
turns_by i place joined task t (happens (is_cancelled by (in_queue ask object since) in_cleanup)) = turn i place task object t (goes ask) ∷ []
turns_by i place joined task t (happens (deadlocks ask object)) = turn i place task object t (goes ask) ∷ []
turns_by i place joined task t (happens (gives_token_back object)) = turn i place task object t gives_back ∷ []
turns_by i place joined task t (happens (closes_channel (Some object))) = turn i place task object t closes ∷ []
turns_by i place joined task t _ = []

-- The place of a task in the order of records is where it starts in the walk.
abbrev pub starts_task : Label → Event → Bool
starts_task task e = is_start e.what && same_label task e.task

abbrev pub record_of : Label → List Event → ℕ
record_of task walked = unwrap_or (position_from (starts_task task) 0 walked) (length walked)

abbrev pub turns_in : List Event → (i joined : ℕ) → List Event → List Turn
turns_in walked i joined [] = []
turns_in walked i joined (e ∷ es) = turns_by i (record_of e.task walked) joined e.task e.tick e.what ++ turns_in walked (i + 1) e.tick es

-- who leaves a queue in a moment does so before what else is done in it
abbrev pub after_leaving : Move → ℕ
after_leaving (goes ask) = 0
after_leaving _ = 1

abbrev pub place_of : Turn → ℕ
place_of x = x.record_place

abbrev pub leaving_of : Turn → ℕ
leaving_of x = after_leaving x.move

abbrev pub moment_of : Turn → ℕ
moment_of x = x.moment

-- the moves in the order in which limiters and channels serve them: by moment, and in a moment in the order of records
abbrev pub in_service : List Event → List Turn
in_service walked = sorted_by moment_of (sorted_by leaving_of (sorted_by place_of (turns_in walked 0 0 walked)))

-- ---- places and numbers

-- numbers that tell moves apart
abbrev pub ask_number : Ask → ℕ
ask_number Acquire = 0
ask_number Send = 1
ask_number Receive = 2

abbrev pub move_number : Move → ℕ
move_number (joins ask) = ask_number ask
move_number (goes ask) = 3 + ask_number ask
move_number (is_granted ask) = 6 + ask_number ask
move_number gives_back = 9
move_number closes = 10

abbrev pub same_move : Move → Move → Bool
same_move a b = move_number a == move_number b

-- the tasks of such moves at a limiter or channel
abbrev pub tasks_at : Label → Move → List Turn → List Label
tasks_at object move [] = []
tasks_at object move (x ∷ xs) =
    if same_label object x.object && same_move move x.move then x.task ∷ tasks_at object move xs else tasks_at object move xs

abbrev pub how_many : Label → Move → List Turn → ℕ
how_many object move turns = length (tasks_at object move turns)

-- The number of a move after others. The place in the queue of a task that joins it: those who joined it before, less those who left,
-- are before the task. And of what is granted, how much was granted to those who asked the same before.
abbrev pub number_after : List Turn → Label → Move → Option ℕ
number_after before object (joins ask) = Some ((how_many object (joins ask) before + 1) - how_many object (goes ask) before)
number_after before object (is_granted ask) = Some (how_many object (is_granted ask) before)
number_after before object _ = None

abbrev pub or_number : Option ℕ → Option ℕ → Option ℕ
or_number None other = other
or_number (Some n) other = Some n

-- the number of the first of these moves that has one and is in the event of this number, where others were served before
abbrev pub number_in : (before : List Turn) → ℕ → List Turn → Option ℕ
number_in before i [] = None
number_in before i (x ∷ xs) =
    or_number (if x.event == i then number_after before x.object x.move else None) (number_in (before ++ x ∷ []) i xs)

-- ---- notes

abbrev pub kind_if : Bool → ObjectKind → Option ObjectKind → Option ObjectKind
kind_if true kind other = Some kind
kind_if false kind other = other

abbrev pub kind_by : Label → What → Option ObjectKind → Option ObjectKind
kind_by object (happens (enters_object kind label)) other = kind_if (same_label object label) kind other
kind_by object _ other = other

-- whether it is a limiter or a channel, and of which size
abbrev pub kind_of : Label → List Event → Option ObjectKind
kind_of object [] = None
kind_of object (e ∷ es) = kind_by object e.what (kind_of object es)

abbrev pub queue_note : Ask → Option ObjectKind → ℕ → Option Note
queue_note Acquire (Some (Limiter tokens)) place = Some (all_in_use tokens place)
queue_note Acquire _ place = None
queue_note Send kind place = Some (no_room place)
queue_note Receive kind place = Some (nothing_there place)

-- A limiter gives its own tokens first, and then those that came back, in order. So the token of number `tokens + n` is the one that came back
-- as number n.
abbrev pub token_note : Option ObjectKind → ℕ → List Label → Option Note
token_note (Some (Limiter tokens)) number givers =
    if nat_le tokens number then option_map given_back_by (slice_get givers (number - tokens)) else None
token_note _ number givers = None

-- What is received first was sent first: the part that is received as number n was sent as number n.
abbrev pub granted_note : Ask → Label → (waited : Bool) → Option ObjectKind → ℕ → List Turn → Option Note
granted_note Acquire object true kind number served = token_note kind number (tasks_at object gives_back served)
granted_note Acquire object false kind number served = None
granted_note Send object waited kind number served = None
granted_note Receive object waited kind number served = option_map sent_by (slice_get (tasks_at object (is_granted Send) served) number)

-- what is noted of an event with this number in a queue, or among what was granted
abbrev pub note_by : List Event → List Turn → Option ℕ → What → Option Note
note_by walked served (Some n) (happens (queues ask object part left)) = queue_note ask (kind_of object walked) n
note_by walked served (Some n) (happens (gets ask object at_once)) =
    granted_note ask object (is_none at_once) (kind_of object walked) n served
note_by walked served n (happens (finds_closed ask object at_once)) = option_map closed_by (slice_get (tasks_at object closes served) 0)
note_by walked served n _ = None

-- A task asks, and is granted something, at most once in a moment. So such events of a task are told apart by the moment, and by whether the
-- task joins a queue.
abbrev pub joins_by : What → Option Bool
joins_by (happens (queues ask object part left)) = Some true
joins_by (happens (gets ask object at_once)) = Some false
joins_by (happens (finds_closed ask object at_once)) = Some false
joins_by _ = None

abbrev pub same_joining : Option Bool → Option Bool → Bool
same_joining (Some a) (Some b) = beq a b
same_joining (Some a) None = false
same_joining None b = false

abbrev pub is_noted_as : Event → Event → Bool
is_noted_as e x = same_joining (joins_by e.what) (joins_by x.what) && (same_label e.task x.task && (e.tick == x.tick))

-- what is noted of an event, if there is such an event from number i of the walk on
abbrev pub noted_in : List Event → List Turn → ℕ → List Event → Event → Option (Option Note)
noted_in walked served i [] e = None
noted_in walked served i (x ∷ xs) e =
    if is_noted_as e x then Some (note_by walked served (number_in [] i served) x.what) else noted_in walked served (i + 1) xs e

-- what a story says of other tasks in its events
abbrev pub Notes : Type 0
Notes = Event → Option Note

abbrev pub no_notes : Notes
no_notes e = None

-- what it says by the events of its walk
abbrev pub notes_in : List Event → Notes
notes_in walked e = unwrap_or (noted_in walked (in_service walked) 0 walked e) None
