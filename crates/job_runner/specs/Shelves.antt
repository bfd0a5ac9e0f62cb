-- Where the tasks of a run are kept between their turns: in the current batch or the next one, with a timer, or waiting for a
-- nursery of which a member runs.
use Rattle.std.specs.Prelude.{◌≡◌, ◌≢◌, ℕ, ◌⊎◌, ◌+◌, ◌<◌, ◌≤◌, suc, if◌then◌else◌, false, List, Option, Some, None, [], ◌∷◌, length, map, All, IsSomeAnd}
use Rattle.std.specs.Option.{ForSome}
use Rattle.clock.specs.Clock.{now_of, limit_of, due_of}
use Rattle.clock.specs.Clock as timers
use Rattle.task_table.specs.declared.entry.Call.{Call}
use Rattle.task_table.specs.declared.entry.Call.TheVariants.{Begin, Settled, Granted, Ask}
use Rattle.task_table.specs.declared.entry.Entry.{Entry}
use Rattle.task_table.specs.Batch.{Batches}
use Rattle.task_table.specs.Entries.{Added, NonePlaced, wake_of}
use Rattle.cancel_scopes.specs.Sight.{Tick, seen}
use Rattle.cancel_scopes.specs.Tree.{outer_of, is_changed}
use Rattle.job_tree.specs.Tree.{Tree}
use Rattle.job_tree.specs.Names.{GivesNamesOnce}
use Rattle.job_tree.specs.Starting.{StartsInNurseries}
use Rattle.job_tree.specs.InRange.{IsInRange}
use Rattle.exceptions.specs.Exceptions.{Label}
use Rattle.objects.specs.Held.{IsGrantOf, IsObjectOf}
use Rattle.job_meaning.specs.GrantTable.{AreGrantsOf}
use Rattle.turn_semantics.specs.Midway.{Tables}
use Rattle.interleavings.specs.Laws.{IsSettledBy}
use Rattle.job_meaning.specs.Moments.{clock_of, a_round_after, wakes_at}
use Rattle.job_meaning.specs.Walk.{last_grant}
use Rattle.job_meaning.specs.declared.clock.Clock.{Clock}
use Rattle.job_meaning.specs.declared.clock.Clock.TheVariants.{ByRounds as by_rounds}
use Rattle.job_meaning.specs.declared.limits.TheConstants.{MAX_INPUT}
use Rattle.input_lines.specs.Answers.{IsAnswer}
use Rattle.input_lines.specs.declared.answers.Answer.{Answer}
use Rattle.nursery_book.specs.Nursery.{Nursery, is_settled}
use Rattle.nursery_book.specs.Book.{nursery_at}
use Rattle.nursery_book.specs.declared.book.NurseryBook.{NurseryBook}
use Rattle.task_machine.specs.declared.stop.TaskState.{TaskState}
use Rattle.task_machine.specs.declared.stop.TaskState.TheVariants.{ToBegin, Asked, Asleep, Waiting, Queued, GivingUp, Awaits, Over}
use Rattle.task_machine.specs.declared.stop.Wake.{Wake}
use Rattle.task_machine.specs.declared.task.Task.{Task}
use Rattle.task_machine.specs.declared.world.World.{World}
use Rattle.task_machine.specs.Events.{wait_ends}
use Rattle.task_machine.specs.Labels.{Events}
use Rattle.task_machine.specs.Frames.{Lent}
use Rattle.task_machine.specs.Tasks.{scope_of, lent_of}
use Rattle.task_machine.specs.Worlds.{event_at}
use Rattle.run_refinement.specs.RunState.{RunState, Refines}
use Rattle.run_refinement.specs.Ready.{MayGo, AreHomesOf}
use Rattle.run_refinement.specs.Sights.{Shows}
use Rattle.clock.specs.Sleeping.{Sleeping, scope_in, sight_of}
use Rattle.clock.specs.Waiting.{event_in}
use Rattle.task_table.specs.declared.task_table.TaskTable.{TaskTable}
use Rattle.task_table.specs.declared.task_table.Running.{Running}
use Rattle.job_runner.specs.declared.runner.Runner.{Runner}
use Rattle.job_runner.specs.Limits.{last_tick, last_of}
use Rattle.task_table.specs.Rows.{times}
use Rattle.task_table.specs.TaskTable.{Sharing, running_at, parent_of, task_count, run_state, IsTaskTable}
use Rattle.job_runner.specs.declared.serving.RoundAct as held
use Rattle.job_runner.specs.Shared.{what_of, call_by, sharing_of, sharing_in, later_calls, ready_calls, object_at, IsDoneOf, IsCallOf}

-- ---- why a task is ready

-- an answer that was placed for what was asked is that of the kernel
abbrev pub IsRight : Call → Option Answer → Type 0
IsRight (Ask request) (Some answer) = IsAnswer request.kernel request.part answer
IsRight call answer = Unit {0}

-- a task that is ready by this call may continue, with any right answer
abbrev pub GoesBy : World → Task → Call → Type 0
GoesBy world task call = (answer : Option Answer) (wake : Wake) → IsRight call answer → wake_of call answer ≡ Some wake →
    MayGo world (what_of call) task wake

-- the task with an id has not ended, and is ready by this call
abbrev pub IsCalled : TaskTable → World → ℕ → Call → Type 0
IsCalled task_table world id call = IsSomeAnd (running_at task_table id) (λ x. GoesBy world x.task call)

-- the task of an entry, or of what was added, has not ended and is ready by its call
abbrev pub IsCalledEntry : TaskTable → World → Entry → Type 0
IsCalledEntry task_table world e = IsCalled task_table world e.task e.call

abbrev pub IsCalledAdded : TaskTable → World → Added → Type 0
IsCalledAdded task_table world a = IsCalled task_table world a.0 a.1

-- ---- tasks with a timer

-- the moment in which a settled nursery is left, or none while a member of it runs
abbrev pub left_in : Clock → Option Nursery → Option ℕ
left_in clock None = None
left_in clock (Some n) = if is_settled n then Some (a_round_after clock n.last) else None

-- The moment in which a task continues if no cancellation wakes it before: it begins, its sleep ends, its event is set, it gives up, or
-- its nursery is left. A task that asked a kernel has none, and one that waits for a nursery of which a member runs has none yet.
abbrev pub moment_of : Clock → Events → NurseryBook → TaskState → Option ℕ
moment_of clock events book (ToBegin at) = Some at
moment_of clock events book (Asked kernel purpose) = None
moment_of clock events book (Asleep paced ticks since) = Some (wakes_at clock ticks since)
moment_of clock events book (Waiting event since) = Some (wait_ends clock (events event) since)
moment_of clock events book (Queued object ask since body) = Some (last_grant clock since)
moment_of clock events book (GivingUp since) = Some (suc since)
moment_of clock events book (Awaits id since) = left_in clock (nursery_at book id)
moment_of clock events book Over = None

-- A sleeper in this scope does not see a cancellation yet or, where there are rounds, fell asleep in this moment.
abbrev pub IsAsleepIn : World → Option ℕ → ℕ → Type 0
IsAsleepIn world scope since =
    (since ≤ world.tick) × ((seen (outer_of world.scopes scope) world.tick ≡ false) ⊎ ((world.clock ≡ by_rounds) × (since ≡ world.tick)))

-- and one in the queue of a limiter or channel does not, or asked in this moment
abbrev pub IsQueuedIn : World → Option ℕ → ℕ → Type 0
IsQueuedIn world scope since = (since ≤ world.tick) × ((seen (outer_of world.scopes scope) world.tick ≡ false) ⊎ (since ≡ world.tick))

-- that of a task that sleeps, or waits for an event, a limiter or a channel
abbrev pub DozesIn : World → Option ℕ → TaskState → Type 0
DozesIn world scope (ToBegin at) = Unit {0}
DozesIn world scope (Asked kernel purpose) = Unit {0}
DozesIn world scope (Asleep paced ticks since) = IsAsleepIn world scope since
DozesIn world scope (Waiting event since) = IsAsleepIn world scope since
DozesIn world scope (Queued object ask since body) = IsQueuedIn world scope since
DozesIn world scope (GivingUp since) = Unit {0}
DozesIn world scope (Awaits id since) = Unit {0}
DozesIn world scope Over = Unit {0}

-- a task continues in this later moment, if no cancellation wakes it before
pub record Stays (world : World) (due : ℕ) (task : Task) : Type 0 where
  pub due_is : moment_of world.clock (event_at world) world.book task.task_state ≡ Some due
  pub later : world.tick < due
  pub dozes : DozesIn world (scope_of task) task.task_state

-- Why a task in this state continues in the next moment, and in no earlier one: it begins then, its nursery is left then, or something is
-- granted to it, whatever the moment until which it would wait.
abbrev pub ContinuesBy : Lent → (next due : ℕ) → TaskState → Call → Type 0
ContinuesBy lent next due (ToBegin at) Begin = due ≡ next
ContinuesBy lent next due (Awaits id since) Settled = due ≡ next
ContinuesBy lent next due (Queued object ask since body) (Granted grant) = IsGrantOf lent.input grant
ContinuesBy lent next due _ _ = ⊥

-- a task continues by this call in the next moment
pub record ContinuesLater (world : World) (task : Task) (call : Call) : Type 0 where
  pub due : ℕ
  pub stays : Stays world due task
  pub by : ContinuesBy (lent_of task) (suc world.tick) due task.task_state call

-- and so does that with an id, which has not ended
abbrev pub IsCalledLater : TaskTable → World → Added → Type 0
IsCalledLater task_table world a = IsSomeAnd (running_at task_table a.0) (λ (x : Running). ContinuesLater world x.task a.1)

-- each task that has a timer has not ended, and stays until it is due
abbrev pub AllStay : TaskTable → World → timers.Clock → Type 0
AllStay task_table world clock = (id due : ℕ) → due_of clock id ≡ Some due →
    IsSomeAnd (running_at task_table id) (λ (x : Running). Stays world due x.task)

-- the scope in which a task sleeps or waits for an event, if it does
abbrev pub sleeps_in : TaskState → Option ℕ → Option ℕ
sleeps_in (ToBegin at) scope = None
sleeps_in (Asked kernel purpose) scope = None
sleeps_in (Asleep paced ticks since) scope = scope
sleeps_in (Waiting event since) scope = scope
sleeps_in (Queued object ask since body) scope = scope
sleeps_in (GivingUp since) scope = None
sleeps_in (Awaits id since) scope = None
sleeps_in Over scope = None

-- the scope in which a task with such a timer sleeps
abbrev pub sleep_slot_of : Option ℕ → Option Running → Option ℕ
sleep_slot_of None o = None
sleep_slot_of (Some due) None = None
sleep_slot_of (Some due) (Some x) = sleeps_in x.task.task_state (scope_of x.task)

-- an event that nothing has set
abbrev pub if_unset : ℕ → Option Tick → Option ℕ
if_unset event None = None
if_unset event (Some None) = Some event
if_unset event (Some (Some from)) = None

-- the event for which a task waits, if it does and nothing has set it
abbrev pub waits_in : Events → TaskState → Option ℕ
waits_in events (Waiting event since) = if_unset event (events event)
waits_in events _ = None

-- that of a task with such a timer
abbrev pub wait_slot_of : Events → Option ℕ → Option Running → Option ℕ
wait_slot_of events None o = None
wait_slot_of events (Some due) None = None
wait_slot_of events (Some due) (Some x) = waits_in events x.task.task_state

-- Each task that sleeps or waits for an event is known by the scope in which it does, and each such scope by its effective deadline
-- (`sight`), unless that was lowered and the scope is still marked as changed. Each task that waits for an event that nothing has set is
-- known by the event.
pub record AreKnown (task_table : TaskTable) (world : World) (clock : timers.Clock) (sleepers : Sleeping) (waiters : List (Option ℕ)) : Type 0
  where
    pub sleep_slots : (id : ℕ) → scope_in sleepers id ≡ sleep_slot_of (due_of clock id) (running_at task_table id)
    pub sights : (id key : ℕ) → scope_in sleepers id ≡ Some key → Shows world.scopes key (sight_of sleepers key)
    pub waiting : (id : ℕ) → event_in waiters id ≡ wait_slot_of (event_at world) (due_of clock id) (running_at task_table id)

-- no scope is marked as changed
abbrev pub NoneChanged : World → Type 0
NoneChanged world = (key : ℕ) → is_changed world.scopes key ≡ false

-- ---- each task is kept once

-- how often a task with this timer has one
abbrev pub timer_times : Option ℕ → ℕ
timer_times None = 0
timer_times (Some due) = 1

-- how often an id is among entries, what was added, those that continue a round later, and those with a timer
abbrev pub times_shelved : Batches → List Added → timers.Clock → ℕ → ℕ
times_shelved batch later clock id =
    times id (map (λ (e : Entry). e.task) batch.current) + times id (map (λ (a : Added). a.0) batch.next) + times id (map (λ (a : Added). a.0) later)
    + timer_times (due_of clock id)

-- how often the task of a nursery that is waited for has to be there
abbrev pub settled_times : Option Nursery → ℕ
settled_times None = 0
settled_times (Some n) = if is_settled n then 1 else 0

-- and a task, by its blocked state: once, except for one that waits for a nursery of which a member runs
abbrev pub task_state_times : NurseryBook → TaskState → ℕ
task_state_times book (ToBegin at) = 1
task_state_times book (Asked kernel purpose) = 1
task_state_times book (Asleep paced ticks since) = 1
task_state_times book (Waiting event since) = 1
task_state_times book (Queued object ask since body) = 1
task_state_times book (GivingUp since) = 1
task_state_times book (Awaits id since) = settled_times (nursery_at book id)
task_state_times book Over = 0

abbrev pub running_times : NurseryBook → Option Running → ℕ
running_times book None = 0
running_times book (Some x) = task_state_times book x.task.task_state

-- an id that is not the one of the task that has its turn
abbrev pub IsElse : Option ℕ → ℕ → Type 0
IsElse None id = Unit {0}
IsElse (Some away) id = id ≢ away

-- ---- a run between turns

-- The tasks, what they share and the clock are consistent, for a run up to tick `last` after the given number of turns, and no started
-- task and no event that was set waits in the world.
pub record IsConsistent (task_table : TaskTable) (world : World) (clock : timers.Clock) (last turns : ℕ) : Type 0 where
  pub agree : IsTaskTable task_table
  pub homes : (shared : Sharing) → AreHomesOf (run_state task_table world turns shared) (parent_of task_table)
  pub now : now_of clock ≡ world.tick
  pub limit : limit_of clock ≡ last_of world.clock last
  pub within : world.tick ≤ last_of world.clock last
  pub bounded : last ≤ last_tick world.clock
  pub none_started : world.started.items ≡ []
  pub none_set : world.set.items ≡ []
  pub none_done : world.acts.items ≡ []

-- What the runner keeps is consistent. The task with one id may be missing: it is having its turn.
pub record AreShelved (turning : Option ℕ) (r : Runner) : Type 0 where
  pub consistent : IsConsistent r.task_table r.world r.clock r.limit r.turns
  pub stay : AllStay r.task_table r.world r.clock
  pub known : AreKnown r.task_table r.world r.clock r.sleepers r.waiters
  pub current : All (IsCalledEntry r.task_table r.world) r.batch.current
  pub next : All (IsCalledAdded r.task_table r.world) r.batch.next
  -- those that continue a round later do so in the next moment
  pub none_later : r.later.current ≡ []
  pub later : All (IsCalledLater r.task_table r.world) (later_calls r)
  pub once : (id : ℕ) → IsElse turning id → times_shelved r.batch (later_calls r) r.clock id ≡ running_times r.world.book (running_at r.task_table id)
  pub away : ForSome turning (λ (id : ℕ). times_shelved r.batch (later_calls r) r.clock id ≡ 0)

-- the tasks of the program, as a runner keeps them
abbrev pub state_in : Runner → RunState
state_in r = run_state r.task_table r.world r.turns (sharing_in r)

-- For each pair of settled tables they are a run of the definitions.
abbrev pub IsRefined : Runner → Type 0
IsRefined r = (k : Tables) → IsSettledBy k r.job.now r.input.now →
    Refines k r.job.now r.input.now r.world.tick (task_count r.task_table) None (state_in r)

-- the job, the input and the limit stay
pub record IsSameJob (old new : Runner) : Type 0 where
  pub job : new.job ≡ old.job
  pub input : new.input ≡ old.input
  pub limit : new.limit ≡ old.limit

-- an act that asks with a part of this input
abbrev pub IsActOf : List ℕ → held.RoundAct → Type 0
IsActOf input a = IsDoneOf input a.done

-- a task whose call grants it a part of this input, if one
abbrev pub IsEntryOf : List ℕ → Entry → Type 0
IsEntryOf input e = IsCallOf input e.call

abbrev pub IsAddedOf : List ℕ → Added → Type 0
IsAddedOf input a = IsCallOf input a.1

-- the parts that limiters and channels hold, those of what was done in this moment, and those that were granted are of the input
pub record HoldsParts (r : Runner) : Type 0 where
  pub objects : (l : Label) → ForSome (object_at r.objects l) (IsObjectOf r.input.now)
  pub round : All (IsActOf r.input.now) r.round.items
  pub current : All (IsEntryOf r.input.now) r.batch.current
  pub next : All (IsAddedOf r.input.now) r.batch.next
  pub later : All (IsAddedOf r.input.now) (later_calls r)
  -- all that were granted so far
  pub granted : AreGrantsOf r.input.now r.grants

-- what holds for each job that was read, and for an input that may be run
pub record IsSoundJob (job : Tree) (input : List ℕ) : Type 0 where
  pub names : GivesNamesOnce job
  pub starts : StartsInNurseries job
  pub in_range : IsInRange job
  pub small : length input ≤ MAX_INPUT

-- A run between two turns.
pub record IsGoing (r : Runner) : Type 0 where
  pub sound : IsSoundJob r.job.now r.input.now
  pub counts : r.world.clock ≡ clock_of r.job.now.format
  pub shelved : AreShelved None r
  pub interleaving : IsRefined r
  -- the parts that limiters and channels hold, or that are to be sent, are of the input
  pub lent : HoldsParts r

-- none of these tasks continues because something was granted to it
abbrev pub NoneGranted : List Added → Type 0
NoneGranted added = All (λ (a : Added). what_of a.1 ≡ None) added

-- What was done to limiters and channels in this moment is not served yet, so nothing is granted for the next one.
pub record IsUnserved (r : Runner) : Type 0 where
  pub through : r.through ≡ r.world.tick
  pub none_granted : NoneGranted (later_calls r)

-- A run between two turns of a batch.
pub record IsBetweenTurns (r : Runner) : Type 0 where
  pub going : IsGoing r
  pub unserved : IsUnserved r

-- it is served
pub record IsServed (r : Runner) : Type 0 where
  pub through : r.through ≡ suc r.world.tick
  pub none_done : r.round.items ≡ []

-- it is when no task is ready in this moment any more
abbrev pub IsServedIf : List Entry → Runner → Type 0
IsServedIf [] r = IsServed r
IsServedIf (e ∷ es) r = IsUnserved r

-- the tasks of the program before the one with an id has its turn with this wake
abbrev pub state_turning : ℕ → Wake → Runner → RunState
state_turning id wake r = run_state r.task_table r.world r.turns (sharing_of r ((id, call_by wake) ∷ ready_calls r))

-- A run in which the task with this id is about to have its turn with this wake.
pub record IsTurning (id : ℕ) (wake : Wake) (r : Runner) : Type 0 where
  pub sound : IsSoundJob r.job.now r.input.now
  pub counts : r.world.clock ≡ clock_of r.job.now.format
  pub shelved : AreShelved (Some id) r
  pub goes : IsSomeAnd (running_at r.task_table id) (λ (x : Running). MayGo r.world (what_of (call_by wake)) x.task wake)
  pub interleaving : (k : Tables) → IsSettledBy k r.job.now r.input.now →
      Refines k r.job.now r.input.now r.world.tick (task_count r.task_table) None (state_turning id wake r)
  pub lent : HoldsParts r
  pub unserved : IsUnserved r

-- A run between two calls of its caller: no answers are placed for its batch, and no task was added to the next one.
pub record IsUnderway (r : Runner) : Type 0 where
  pub going : IsGoing r
  pub unchanged : NoneChanged r.world
  pub unplaced : NonePlaced r.batch.current
  pub nothing_added : r.batch.next ≡ []
  pub served : IsServedIf r.batch.current r
