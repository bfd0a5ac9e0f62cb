-- Copies of one `start` that meet, which has `over` or is in a `repeat`: one cancels something, and something happens to another within a
-- hair of that; or both do something to one limiter or channel within a hair.
use Rattle.std.specs.Prelude.{ℕ, ◌-◌, ◌==◌, ◌&&◌, ◌||◌, not, nat_le, is_some, Bool, true, false, if◌then◌else◌, Option, Some, None, List, [], ◌∷◌}
use Rattle.std.specs.Str.{bytes_eq}
use Rattle.exceptions.specs.Exceptions.{Label, Exc, cancelled, raised, too_slow, group, Excs, no_parts, part}
use Rattle.job_meaning.specs.Log.{same_label}
use Rattle.job_meaning.specs.Moments.{tick_of}
use Rattle.job_meaning.specs.declared.clock.Clock.{Clock}
use Rattle.job_tree.specs.declared.object.Ask.TheVariants.{Acquire}
use Rattle.job_story.specs.Story.{is_cancelled, cancels, queues, gets, finds_closed, closes_channel}
use Rattle.job_story.specs.Events.{What, starts, happens, ends, Event}
use Rattle.job_story.specs.Limit.{is_start, is_end}

-- ---- what happens to copies

-- an event of a copy, or of a descendant of the copy, with its tick
pub record Sight : Type 0 where
  pub copy : Label
  pub tick : ℕ
  pub what : What

abbrev pub sight : Clock → Label → Event → Sight
sight clock copy e = record { copy = copy; tick = tick_of clock e.tick; what = e.what }

-- a task with this name starts
abbrev pub starts_copy : List ℕ → Event → Bool
starts_copy name e = is_start e.what && bytes_eq e.task.name name

-- this task ends
abbrev pub ends_copy : Label → Event → Bool
ends_copy copy e = is_end e.what && same_label e.task copy

-- the copy that an event is of: one that has started, or the one that starts with this event
abbrev pub copy_at : List ℕ → Option Label → Event → Option Label
copy_at name None e = if starts_copy name e then Some e.task else None
copy_at name (Some copy) e = Some copy

-- the copy, if it has not ended after an event of it
abbrev pub open_copy : Option Label → Event → Option Label
open_copy None e = None
open_copy (Some copy) e = if ends_copy copy e then None else Some copy

abbrev pub with_sight : Clock → Option Label → Event → List Sight → List Sight
with_sight clock None e others = others
with_sight clock (Some copy) e others = sight clock copy e ∷ others

-- The events of the tasks with this name and of all their descendants, given the events of a story in the order of the walk:
-- there they are between the start and the end of the task. `current` is such a task that has started and has not ended, if
-- there is one.
abbrev pub sights_from : Clock → List ℕ → Option Label → List Event → List Sight
sights_from clock name current [] = []
sights_from clock name current (e ∷ es) =
    with_sight clock (copy_at name current e) e (sights_from clock name (open_copy (copy_at name current e) e) es)

abbrev pub sights_of : Clock → List ℕ → List Event → List Sight
sights_of clock name es = sights_from clock name None es

-- ---- which of them meet

-- an exception is or contains one other than `Cancelled`
abbrev mutual
  pub is_failure : Exc → Bool
  is_failure cancelled = false
  is_failure (raised name task tick) = true
  is_failure (too_slow scope tick) = true
  is_failure (group whose parts) = some_failure parts

  pub some_failure : Excs → Bool
  some_failure no_parts = false
  some_failure (part e es) = is_failure e || some_failure es

-- the event cancels something: a scope or nursery by a `cancel`, or the task's nursery because the task ends with an exception
abbrev pub cancels_some : What → Bool
cancels_some (happens (cancels label)) = true
cancels_some (ends home (Some e)) = is_failure e
cancels_some _ = false

-- the event is neither a start nor a cancellation
abbrev pub acts : What → Bool
acts (starts home lent) = false
acts (happens (is_cancelled by during in_cleanup)) = false
acts _ = true

-- indices that differ only in the last one
abbrev pub differ_last : List ℕ → List ℕ → Bool
differ_last (i ∷ []) (j ∷ []) = not (i == j)
differ_last (i ∷ is) (j ∷ js) = i == j && differ_last is js
differ_last _ _ = false

-- two ticks are at most a hair apart
abbrev pub is_within : ℕ → ℕ → ℕ → Bool
is_within hair t u = nat_le (t - hair) u && nat_le (u - hair) t

-- the limiter or channel at which a task does what another one might have done first: it waits in a queue, uses a channel, or closes it
abbrev pub contended : What → Option Label
contended (happens (queues ask object lent left)) = Some object
contended (happens (gets Acquire object at_once)) = None
contended (happens (gets ask object (Some asked))) = Some object
contended (happens (closes_channel object)) = object
contended _ = None

-- the one that a task asks for something, or closes
abbrev pub used : What → Option Label
used (happens (queues ask object lent left)) = Some object
used (happens (gets ask object (Some asked))) = Some object
used (happens (finds_closed ask object (Some asked))) = Some object
used (happens (closes_channel object)) = object
used _ = None

abbrev pub is_same_object : Option Label → Option Label → Bool
is_same_object (Some l) (Some k) = same_label l k
is_same_object _ _ = false

-- the first of two events may change what the second one is, if it is a little earlier or later
abbrev pub concerns : What → What → Bool
concerns a b = (cancels_some a && acts b) || is_same_object (contended a) (used b)

-- two copies that were started together, or in passes of one `repeat`, where an event of one concerns one of the other within a hair
abbrev pub meets : ℕ → Sight → Sight → Bool
meets hair a b = concerns a.what b.what && (differ_last a.copy.indices b.copy.indices && is_within hair a.tick b.tick)

-- an event that may concern another one
abbrev pub may_meet : What → Bool
may_meet a = cancels_some a || is_some (contended a)

-- ---- the first meeting

-- the copy of which an event concerns the other, and the tick of that
pub record Meeting : Type 0 where
  pub one : Label
  pub other : Label
  pub tick : ℕ

-- the first of these events that an event meets
abbrev pub first_meeting : ℕ → Sight → List Sight → Option Meeting
first_meeting hair a [] = None
first_meeting hair a (b ∷ bs) =
    if meets hair a b then Some (record { one = a.copy; other = b.copy; tick = a.tick }) else first_meeting hair a bs

-- the earlier of two meetings, or the first if both are in the same tick
abbrev pub earlier_meeting : Option Meeting → Option Meeting → Option Meeting
earlier_meeting None m = m
earlier_meeting (Some m) None = Some m
earlier_meeting (Some m) (Some n) = if nat_le m.tick n.tick then Some m else Some n

abbrev pub first_meeting_among : ℕ → List Sight → List Sight → Option Meeting
first_meeting_among hair all [] = None
first_meeting_among hair all (a ∷ others) = earlier_meeting (first_meeting hair a all) (first_meeting_among hair all others)

-- The earliest meeting of copies with this name, given the events of a story in the order of the walk. Copies meet by ticks: in
-- which rounds of their ticks they act does not matter.
abbrev pub meeting_in : Clock → ℕ → List ℕ → List Event → Option Meeting
meeting_in clock hair name es = first_meeting_among hair (sights_of clock name es) (sights_of clock name es)
