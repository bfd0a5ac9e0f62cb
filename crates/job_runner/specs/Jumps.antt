-- What a jump of the clock does: to which moment, and which tasks continue then.
use Rattle.std.specs.Prelude.{◌≡◌, ◌≢◌, ◌⊎◌, ℕ, suc, ◌<◌, ◌≤◌, max, Bool, true, false, Option, Some, None, List, [], All, IsSomeAnd}
use Rattle.std.specs.Option.{option_map}
use Rattle.clock.specs.Clock.{due_of}
use Rattle.clock.specs.Clock as timers
use Rattle.task_table.specs.declared.entry.Call.{Call}
use Rattle.task_table.specs.declared.entry.Call.TheVariants.{Due, Seen}
use Rattle.cancel_scopes.specs.Sight.{Tick, is_reached, sight}
use Rattle.cancel_scopes.specs.Tree.{outer_of}
use Rattle.task_machine.specs.declared.stop.TaskState.{TaskState}
use Rattle.task_machine.specs.declared.stop.TaskState.TheVariants.{ToBegin, Asked, Asleep, Waiting, Queued, GivingUp, Awaits, Over}
use Rattle.task_machine.specs.declared.task.Task.{Task}
use Rattle.task_machine.specs.declared.world.World.{World}
use Rattle.task_machine.specs.Events.{is_wait_over}
use Rattle.task_machine.specs.Tasks.{scope_of}
use Rattle.task_machine.specs.Worlds.{event_at}
use Rattle.clock.specs.Sleeping.{IsFirst}
use Rattle.task_table.specs.TaskTable.{running_at}
use Rattle.task_table.specs.declared.task_table.TaskTable.{TaskTable}
use Rattle.task_table.specs.declared.task_table.Running.{Running}
use Rattle.job_runner.specs.declared.fault.RunFault.{RunFault}
use Rattle.job_runner.specs.declared.fault.RunFault.TheVariants.{Limit, NoMemory}
use Rattle.job_runner.specs.declared.runner.Runner.{Runner}
use Rattle.job_runner.specs.Limits.{last_of}
use Rattle.job_runner.specs.Shared.{granted_among, later_calls, ready_calls}
use Rattle.job_runner.specs.Shelves.{moment_of, AreKnown, IsAddedOf, IsCalledAdded, IsConsistent, NoneChanged, times_shelved, running_times}

abbrev pub seen_call_if : Bool → Call
seen_call_if true = Due
seen_call_if false = Seen

-- how a task continues that sees a cancellation: one that waits for an event which is set by now goes on
abbrev pub seen_call : World → Task → Call
seen_call world task = seen_call_if (is_wait_over world.clock (event_at world) task.task_state world.tick)

-- the moment from which a task in a scope sees a cancellation while it sleeps or waits for an event
abbrev pub sight_asleep : World → Option ℕ → TaskState → Tick
sight_asleep world scope (ToBegin at) = None
sight_asleep world scope (Asked kernel purpose) = None
sight_asleep world scope (Asleep paced ticks since) = sight (outer_of world.scopes scope)
sight_asleep world scope (Waiting event since) = sight (outer_of world.scopes scope)
sight_asleep world scope (Queued object ask since body) = sight (outer_of world.scopes scope)
sight_asleep world scope (GivingUp since) = None
sight_asleep world scope (Awaits id since) = None
sight_asleep world scope Over = None

-- that of the task with an id
abbrev pub sight_by : World → Option Running → Tick
sight_by world None = None
sight_by world (Some x) = sight_asleep world (scope_of x.task) x.task.task_state

abbrev pub sight_in : TaskTable → World → ℕ → Tick
sight_in task_table world id = sight_by world (running_at task_table id)

-- The moment in which the first sleeper that sees a cancellation continues, if one does. It is later than this one.
pub record IsNextCancel (r : Runner) (cancel : Tick) : Type 0 where
  pub first : Tick
  pub is_first : IsFirst r.sleepers first
  pub is : cancel ≡ option_map (max (suc r.world.tick)) first

-- The moment to which the clock jumps, if no timer is due before: the next one, if a task continues a round later, or that of the first
-- cancellation.
abbrev pub IsNextRound : Runner → Tick → Type 0
IsNextRound r next =
    ((later_calls r ≢ []) × (next ≡ Some (suc r.world.tick))) ⊎ ((later_calls r ≡ []) × IsNextCancel r next)

-- a task with a timer continues in this moment: its own has come, or it waits and sees a cancellation from then on or since before
pub record WakesByTimer (r : Runner) (t : ℕ) : Type 0 where
  pub id : ℕ
  pub due : ℕ
  pub timer : due_of r.clock id ≡ Some due
  pub on : (due ≡ t) ⊎ (option_map (max (suc r.world.tick)) (sight_in r.task_table r.world id) ≡ Some t)

-- a task continues in this moment: by its timer, or in the next one
abbrev pub Wakes : Runner → ℕ → Type 0
Wakes r t = WakesByTimer r t ⊎ ((later_calls r ≢ []) × (t ≡ suc r.world.tick))

-- The moment of the next jump: a task continues in it, and none earlier. There is only one.
pub record IsNextMoment (r : Runner) (t : ℕ) : Type 0 where
  pub someone : Wakes r t
  pub first : (u : ℕ) → Wakes r u → t ≤ u

-- `Limit` is returned if the next moment is after the tick of the limit
pub record IsPast (r : Runner) (limit : ℕ) : Type 0 where
  pub is : limit ≡ r.limit
  pub next : ℕ
  pub is_next : IsNextMoment r next
  pub late : last_of r.world.clock r.limit < next

abbrev pub PassesLimit : Runner → RunFault → Type 0
PassesLimit r (Limit limit) = IsPast r limit
PassesLimit r NoMemory = Unit {0}

-- a task that sleeps, or waits for an event, began that before this moment
abbrev pub BeganBefore : ℕ → TaskState → Type 0
BeganBefore t (ToBegin at) = Unit {0}
BeganBefore t (Asked kernel purpose) = Unit {0}
BeganBefore t (Asleep paced ticks since) = since < t
BeganBefore t (Waiting event since) = since < t
BeganBefore t (Queued object ask since body) = since < t
BeganBefore t (GivingUp since) = Unit {0}
BeganBefore t (Awaits id since) = Unit {0}
BeganBefore t Over = Unit {0}

-- A task stayed until the clock reached this moment, which is not after the one in which it continues.
pub record Stayed (world : World) (due : ℕ) (task : Task) : Type 0 where
  pub due_is : moment_of world.clock (event_at world) world.book task.task_state ≡ Some due
  pub began : BeganBefore world.tick task.task_state
  pub not_over : world.tick ≤ due

-- the moment of a task has come, or it sleeps and sees a cancellation
pub record IsAnyNow (task_table : TaskTable) (world : World) (clock : timers.Clock) : Type 0 where
  pub id : ℕ
  pub due : ℕ
  pub timer : due_of clock id ≡ Some due
  pub timely : (due ≤ world.tick) ⊎ (is_reached (sight_in task_table world id) world.tick ≡ true)

-- The clock reached a later moment, and so did the world. Tasks that may continue are being made ready.
pub record IsWaking (r : Runner) : Type 0 where
  pub consistent : IsConsistent r.task_table r.world r.clock r.limit r.turns
  pub stayed : (id due : ℕ) → due_of r.clock id ≡ Some due → IsSomeAnd (running_at r.task_table id) (λ (x : Running). Stayed r.world due x.task)
  pub known : AreKnown r.task_table r.world r.clock r.sleepers r.waiters
  pub unchanged : NoneChanged r.world
  pub none_current : r.batch.current ≡ []
  pub next : All (IsCalledAdded r.task_table r.world) r.batch.next
  -- those that continue a round later are among these
  pub none_left : r.later.current ≡ []
  pub none_later : later_calls r ≡ []
  pub once : (id : ℕ) → times_shelved r.batch (later_calls r) r.clock id ≡ running_times r.world.book (running_at r.task_table id)
  pub someone : (r.batch.next ≢ []) ⊎ IsAnyNow r.task_table r.world r.clock

-- no sleeper is left that sees a cancellation
abbrev pub NoneSees : Runner → Type 0
NoneSees r =
    (id due : ℕ) → due_of r.clock id ≡ Some due → IsSomeAnd (running_at r.task_table id)
    (λ (x : Running). is_reached (sight_asleep r.world (scope_of x.task) x.task.task_state) r.world.tick ≡ false)

-- nothing but the timers, the sleepers, the tasks that wait for events and the next batch changed
abbrev pub WakesOnly : Runner → Runner → Type 0
WakesOnly old new = new ≡ record old { clock = new.clock; sleepers = new.sleepers; waiters = new.waiters; batch = new.batch }

-- nothing is granted by the calls that were added
pub record AddsUngranted (old new : Runner) : Type 0 where
  pub granted : (id : ℕ) → granted_among id (ready_calls new) ≡ granted_among id (ready_calls old)
  pub parts : (input : List ℕ) → All (IsAddedOf input) old.batch.next → All (IsAddedOf input) new.batch.next
