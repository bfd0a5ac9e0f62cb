-- When the time of a task passes: only while it sleeps or waits, and by rounds at a checkpoint too.
use Rattle.std.specs.Prelude.{◌≡◌, ℕ, suc, ◌-◌, ◌<◌, ◌≤◌, min, Option, Some, None}
use Rattle.exceptions.specs.Exceptions.{Label}
use Rattle.cancel_scopes.specs.Sight.{Tick}
use Rattle.job_meaning.specs.Log.{Table}
use Rattle.job_meaning.specs.Moments.{start_of, far}
use Rattle.job_meaning.specs.declared.clock.Clock.{Clock}
use Rattle.job_meaning.specs.declared.clock.Clock.TheVariants.{ByTicks as by_ticks, ByRounds as by_rounds}
use Rattle.job_meaning.specs.Walk.{set_moment}
use Rattle.job_story.specs.Story.{During, at_checkpoint, sleeping, waiting_for, in_queue, before_asking, Asked, Happening, sleeps, is_cancelled, awaits, was_set, queues, gets, finds_closed, deadlocks, waits, Story, no_more, happened, started}

-- the moment until which a task sleeps, which is the start of tick `far` where it sleeps forever
abbrev pub until_tick : Clock → Tick → ℕ
until_tick clock None = start_of clock far
until_tick clock (Some t) = t

-- What a task does between two things that happen to it: it is awake in a moment, sleeps since a moment and is due in a moment, waits for
-- the tasks of a nursery since a moment, waits since a moment for an event, which is set from a moment on, or waits in the queue of a limiter
-- or channel since a moment.
pub data Doing : Type 0 where
  awake : (at : ℕ) → Doing
  asleep : (since due : ℕ) → Doing
  waiting : (since : ℕ) → Doing
  expecting : (event : Label) → (since set : ℕ) → Doing
  queueing : (object : Label) → (since : ℕ) → Doing

-- what a task does after this happened to it in moment t
abbrev pub doing_after : Clock → Table → ℕ → Happening → Doing
doing_after clock table t (sleeps until) = asleep t (until_tick clock until)
doing_after clock table t (waits nursery exc) = waiting t
doing_after clock table t (awaits event) = expecting event t (set_moment clock (table event) t)
doing_after clock table t (queues ask object part left) = queueing object t
doing_after clock table t _ = awake t

-- A task that goes on in a moment: the next thing that happens to it is in that moment. By rounds it may be later, as a checkpoint takes
-- rounds and is no event.
abbrev pub GoesOnIn : Clock → ℕ → ℕ → Type 0
GoesOnIn by_ticks m t = t ≡ m
GoesOnIn by_rounds m t = m ≤ t

-- The next thing of a task is where it goes on: in the same moment if it is awake, in the moment in which its sleep is due if it
-- sleeps, and in that moment or later if it waits for a nursery. To a task that waits for an event nothing happens before the
-- event is set, and to one in a queue nothing before it leaves that.
abbrev pub IsNext : Clock → Doing → ℕ → Type 0
IsNext clock (awake at) t = GoesOnIn clock at t
IsNext clock (asleep since due) t = GoesOnIn clock due t
IsNext clock (waiting since) t = since ≤ t
IsNext clock (expecting event since set) t = ⊥
IsNext clock (queueing object since) t = ⊥

-- what is set from this moment on is set by moment t; no wait lasts longer than `forever`
abbrev pub IsSetBy : Clock → Tick → ℕ → Type 0
IsSetBy clock None t = start_of clock far ≤ t
IsSetBy clock (Some from) t = min from (start_of clock far) ≤ t

-- A task goes on since an event is set: the one for which it waits, in the moment from which that is set by the table. A task that does
-- not wait for one was at a checkpoint, and the event is set by then.
abbrev pub IsSet : Clock → Table → Doing → ℕ → Label → Type 0
IsSet clock table (expecting other since set) t event = (event ≡ other) × (t ≡ set)
IsSet clock table doing t event = IsNext clock doing t × IsSetBy clock (table event) t

-- A task is cancelled in moment t while it sleeps since a moment: it fell asleep in that moment and sleeps still.
abbrev pub IsCutAsleep : Doing → ℕ → ℕ → Type 0
IsCutAsleep (asleep since due) s t = (s ≡ since) × (since < t) × (t ≤ due)
IsCutAsleep _ s t = ⊥

-- It is cancelled while it waits for an event since a moment: it waits for that event since then, and the event is set later, if ever.
abbrev pub IsCutWaiting : Doing → Label → ℕ → ℕ → Type 0
IsCutWaiting (expecting event since set) e s t = (e ≡ event) × (s ≡ since) × (since < t) × (t < set)
IsCutWaiting _ e s t = ⊥

-- it waits in this queue since an earlier moment
abbrev pub IsInQueue : Doing → Label → ℕ → ℕ → Type 0
IsInQueue (queueing other since) object s t = (object ≡ other) × (s ≡ since) × (since < t)
IsInQueue _ object s t = ⊥

-- What a task asked of a limiter or channel comes in moment t: it waited in the queue, or asked in the moment before.
abbrev pub ComesTo : Clock → Doing → ℕ → Label → Option Asked → Type 0
ComesTo clock doing t object None = (since : ℕ) × IsInQueue doing object since t
ComesTo clock doing t object (Some asked) = IsNext clock doing asked.since × (t ≡ suc asked.since)

-- Where `Cancelled` is raised in moment t: a checkpoint is next for the task, and a sleep or a wait is cut.
abbrev pub IsCut : Clock → Doing → ℕ → During → Type 0
IsCut clock doing t at_checkpoint = IsNext clock doing t
IsCut clock doing t (sleeping since) = IsCutAsleep doing since t
IsCut clock doing t (waiting_for event since) = IsCutWaiting doing event since t
IsCut clock doing t (in_queue ask object since) = IsInQueue doing object since t
IsCut clock doing t (before_asking ask object) = IsNext clock doing t

-- what happens to a task in moment t is next, or is what ends its sleep or its wait
abbrev pub IsNextOrCut : Clock → Table → Doing → ℕ → Happening → Type 0
IsNextOrCut clock table doing t (is_cancelled by during in_cleanup) = IsCut clock doing t during
IsNextOrCut clock table doing t (was_set event) = IsSet clock table doing t event
IsNextOrCut clock table doing t (gets ask object at_once) = ComesTo clock doing t object at_once
IsNextOrCut clock table doing t (finds_closed ask object at_once) = ComesTo clock doing t object at_once
IsNextOrCut clock table doing t (deadlocks ask object) = ComesTo clock doing t object None
IsNextOrCut clock table doing t _ = IsNext clock doing t

-- The moment in which a task started another, which begins in moment s: by rounds that is a round later, and the starter goes on at once.
abbrev pub starter_at : Clock → ℕ → ℕ
starter_at by_ticks s = s
starter_at by_rounds s = s - 1

-- Each thing of a story is next for its task, or is the cancellation of its sleep or of its wait, from what the task does before the story to
-- its end in the given moment. A thing is a happening, the start of a task, which is awake then, or, where the story has no more, the end.
abbrev pub AllInTime : Clock → Table → Doing → ℕ → Story → Type 0
AllInTime clock table doing end no_more = IsNext clock doing end
AllInTime clock table doing end (happened t what rest) =
    IsNextOrCut clock table doing t what × AllInTime clock table (doing_after clock table t what) end rest
AllInTime clock table doing end (started l home part s u e own rest) =
    IsNext clock doing (starter_at clock s) × AllInTime clock table (awake s) u own × AllInTime clock table (awake (starter_at clock s)) end rest
