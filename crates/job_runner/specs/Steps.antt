-- The state after each step of a turn.
use Rattle.std.specs.Option.{ForSome}
use Rattle.std.specs.Prelude.{◌≡◌, ◌≢◌, ℕ, suc, ◌+◌, ◌<◌, ◌≤◌, Bool, true, false, Option, Some, None, List, [], ◌∷◌, ◌++◌, length, map, slice_get, All, IsSomeAnd}
use Rattle.cancel_scopes.specs.Sight.{Tick, sight}
use Rattle.cancel_scopes.specs.Tree.{stack_of}
use Rattle.exceptions.specs.Exceptions.{Exc}
use Rattle.clock.specs.Clock.{due_of, Updates, SameTime}
use Rattle.task_table.specs.declared.entry.Call.{Call}
use Rattle.task_table.specs.declared.entry.Call.TheVariants.{Begin, Settled}
use Rattle.task_table.specs.Entries.{Added}
use Rattle.input_lines.specs.Part.{buffer_of}
use Rattle.turn_semantics.specs.Midway.{Tables}
use Rattle.interleavings.specs.Laws.{IsSettledBy}
use Rattle.job_meaning.specs.Moments.{clock_of, tick_of, a_round_after}
use Rattle.job_meaning.specs.declared.clock.Clock.{Clock}
use Rattle.job_meaning.specs.declared.clock.Clock.TheVariants.{ByTicks as by_ticks, ByRounds as by_rounds}
use Rattle.nursery_book.specs.Nursery.{Nursery, is_settled, with_child}
use Rattle.nursery_book.specs.Book.{HasNursery, Changes}
use Rattle.task_machine.specs.declared.stop.Stop.{Stop}
use Rattle.task_machine.specs.declared.stop.Stop.TheVariants.{Queue}
use Rattle.task_machine.specs.declared.task.Task.{Task}
use Rattle.task_machine.specs.declared.world.World.{World}
use Rattle.task_machine.specs.Tasks.{scope_of}
use Rattle.run_refinement.specs.Sights.{IsOneOf}
use Rattle.run_refinement.specs.Step.{StopSays, StoppedIn}
use Rattle.run_refinement.specs.Turn.{serials_from}
use Rattle.clock.specs.Sleeping.{Moves, Sees}
use Rattle.clock.specs.Waiting.{event_in}
use Rattle.task_table.specs.Rows.{times}
use Rattle.task_table.specs.TaskTable.{running_at, task_of, ended_task_of, start_of, children_of, parent_of, id_of, task_count, run_state, IsTaskTable}
use Rattle.task_table.specs.declared.task_table.TaskTable.{TaskTable}
use Rattle.task_table.specs.declared.task_table.Running.{Running}
use Rattle.job_runner.specs.declared.runner.Runner.{Runner}
use Rattle.task_machine.specs.declared.stop.ObjectRequest.{ObjectRequest}
use Rattle.task_machine.specs.Worlds.{label_at}
use Rattle.run_refinement.specs.RunState.{RunState}
use Rattle.run_refinement.specs.Sharing.{RoundAct, round_act, asked_of}
use Rattle.job_runner.specs.Shared.{later_calls, round_act_of, sharing_in}
use Rattle.job_runner.specs.Shelves.{IsSoundJob, AreShelved, HoldsParts, IsActOf, IsUnserved}

-- ---- the tasks that a task started

-- These tasks were started in that tick by the one of that row, and have the next rows and these ids.
pub record StartsAll (old new : TaskTable) (parent : ℕ) (tasks : List Task) (tick : ℕ) (ids : List ℕ) : Type 0 where
  pub as_many : length ids ≡ length tasks
  -- each has its id, which no task had before
  pub lives :
      (i id : ℕ) (task : Task) → slice_get ids i ≡ Some id → slice_get tasks i ≡ Some task →
      (running_at old id ≡ None) × (running_at new id ≡ Some (record { task = task; row = task_count old + i }))
  pub once : (id : ℕ) → times id ids ≤ 1
  pub others : (id : ℕ) → times id ids ≡ 0 → running_at new id ≡ running_at old id
  pub more : task_count new ≡ task_count old + length tasks
  pub task : (i : ℕ) → task_of new (task_count old + i) ≡ slice_get tasks i
  pub start : (i : ℕ) → i < length tasks → start_of new (task_count old + i) ≡ tick
  pub childless : (i : ℕ) → i < length tasks → children_of new (task_count old + i) ≡ []
  pub parent_is : (i : ℕ) → i < length tasks → parent_of new (task_count old + i) ≡ parent
  pub child : children_of new parent ≡ children_of old parent ++ serials_from (task_count old) (length tasks)
  pub same_task : (p : ℕ) → p < task_count old → task_of new p ≡ task_of old p
  pub same_ended_task : (p : ℕ) → ended_task_of new p ≡ ended_task_of old p
  pub same_start : (p : ℕ) → p < task_count old → start_of new p ≡ start_of old p
  pub same_children : (p : ℕ) → p < task_count old → p ≢ parent → children_of new p ≡ children_of old p
  pub same_parent : (p : ℕ) → p < task_count old → parent_of new p ≡ parent_of old p
  pub same_id : (p : ℕ) → p < task_count old → id_of new p ≡ id_of old p

-- ---- tasks that continue a round later

-- what is added to the next batch: where a moment is a tick, all of them
abbrev pub calls_in : Clock → List ℕ → Call → List Added
calls_in by_ticks ids call = map (λ (id : ℕ). (id, call)) ids
calls_in by_rounds ids call = []

-- what continues in the next moment: where there are rounds, all of them
abbrev pub calls_later : Clock → List ℕ → Call → List Added
calls_later by_ticks ids call = []
calls_later by_rounds ids call = map (λ (id : ℕ). (id, call)) ids

-- The tasks with these ids continue a round later: where a moment is a tick, they were added to the next batch with this call, and
-- otherwise to those that continue in the next moment.
pub record IsReadied (ids : List ℕ) (call : Call) (old new : Runner) : Type 0 where
  pub next : new.batch.next ≡ old.batch.next ++ calls_in old.world.clock ids call
  pub later : later_calls new ≡ later_calls old ++ calls_later old.world.clock ids call
  pub current : new.batch.current ≡ old.batch.current
  pub later_current : new.later.current ≡ old.later.current
  pub rest : new ≡ record old { batch = new.batch; later = new.later }

-- The tasks that waited in the world were taken, and begin a round later.
pub record TakesStarted (old new : Runner) (parent : ℕ) : Type 0 where
  pub ids : List ℕ
  pub starts :
      StartsAll old.task_table new.task_table parent old.world.started.items
      (tick_of old.world.clock (a_round_after old.world.clock old.world.tick)) ids
  pub agree : IsTaskTable new.task_table
  pub world : new.world ≡ record old.world { started = new.world.started }
  pub none_left : new.world.started.items ≡ []
  pub ready : IsReadied ids Begin (record old { world = new.world; task_table = new.task_table }) new

-- ---- the events that a task set

-- Each task that waited for one of these events continues in this moment, and waits no more. Every other one waits for what it did, and
-- keeps its timer.
pub record WakesWaiters (set : List ℕ) (moment : ℕ) (old new : Runner) : Type 0 where
  pub woken :
      (id event : ℕ) → event_in old.waiters id ≡ Some event → IsOneOf event set →
      (event_in new.waiters id ≡ None) × (due_of new.clock id ≡ Some moment)
  pub others :
      (id : ℕ) → ((event : ℕ) → event_in old.waiters id ≡ Some event → IsOneOf event set → ⊥) →
      (event_in new.waiters id ≡ event_in old.waiters id) × (due_of new.clock id ≡ due_of old.clock id)
  pub time : SameTime old.clock new.clock
  pub rest : new ≡ record old { clock = new.clock; waiters = new.waiters }

-- The events that were set were taken from the world, and the tasks that waited for them continue a round later.
pub record TakesSet (old new : Runner) : Type 0 where
  pub world : new.world ≡ record old.world { set = new.world.set }
  pub none_left : new.world.set.items ≡ []
  pub wakes : WakesWaiters old.world.set.items (suc old.world.tick) old (record new { world = old.world })

-- ---- what a task did to limiters and channels

-- What the task of a row did to limiters and channels was taken from the world, and is kept, to be served at the end of the moment.
pub record TakesActs (old new : Runner) (row : ℕ) : Type 0 where
  pub world : new.world ≡ record old.world { acts = new.world.acts }
  pub none_left : new.world.acts.items ≡ []
  pub kept : map round_act_of new.round.items ≡ map round_act_of old.round.items ++ map (round_act row) old.world.acts.items
  pub lent : All (IsActOf old.input.now) old.round.items → All (IsActOf old.input.now) new.round.items
  pub rest : new ≡ record old { world = new.world; round = new.round }

-- What the task of a row asks is kept, where the limiter or channel has a label.
pub record KeepsAsk (old new : Runner) (row : ℕ) (request : ObjectRequest) : Type 0 where
  pub kept : map round_act_of new.round.items ≡ map round_act_of old.round.items ++ asked_of row request (label_at old.world request.object)
  pub lent : buffer_of request.part ≡ old.input.now → All (IsActOf old.input.now) old.round.items → All (IsActOf old.input.now) new.round.items
  pub rest : new ≡ record old { round = new.round }

-- ---- a task that stays

-- the sleepers know a task by the scope that encloses it, if one does
abbrev pub SleepsIn : Runner → Runner → ℕ → Option ℕ → Type 0
SleepsIn old new id None = new.sleepers ≡ old.sleepers
SleepsIn old new id (Some key) =
    Moves old.sleepers new.sleepers id (Some key)
    × ((sight_now : Tick) × ForSome (stack_of old.world.scopes key) (λ st. sight_now ≡ sight st) × Sees old.sleepers new.sleepers key sight_now)

-- the task with an id has a timer for this moment, and is known to the sleepers
pub record PutsToSleep (id due : ℕ) (old new : Runner) : Type 0 where
  pub timers : Updates old.clock new.clock id (Some due)
  pub time : SameTime old.clock new.clock
  pub sleeps : ForSome (running_at old.task_table id) (λ (x : Running). SleepsIn old new id (scope_of x.task))
  pub rest : new ≡ record old { clock = new.clock; sleepers = new.sleepers }

-- ---- a task that stopped

-- what a task that stopped so asks of a limiter or channel
abbrev pub asked_in : World → ℕ → Stop → List RoundAct
asked_in world row (Queue request) = asked_of row request (label_at world request.object)
asked_in world row _ = []

-- the tasks of the program, where what a task asks that stopped so is done too
abbrev pub state_after : ℕ → Stop → Runner → RunState
state_after row stop r =
    run_state r.task_table r.world r.turns
    (record (sharing_in r) { round = map round_act_of r.round.items ++ asked_in r.world row stop })

-- The task with an id and a row stopped so in its turn, and the runner has not handled the stop yet.
pub record IsStopping (id row : ℕ) (stop : Stop) (r : Runner) : Type 0 where
  pub sound : IsSoundJob r.job.now r.input.now
  pub counts : r.world.clock ≡ clock_of r.job.now.format
  pub shelved : AreShelved (Some id) r
  pub lives : IsSomeAnd (running_at r.task_table id) (λ (x : Running). (x.row ≡ row) × StopSays r.world x.task stop)
  -- the parts that limiters and channels hold, or that are to be sent, are of the input
  pub lent : HoldsParts r
  pub interleaving : (k : Tables) → IsSettledBy k r.job.now r.input.now →
      StoppedIn k r.job.now r.input.now r.world.tick (task_count r.task_table) row stop (state_after row stop r)
  pub unserved : IsUnserved r

-- what does not change when the runner handles a stop
pub record IsSameTurn (old new : Runner) : Type 0 where
  pub job : new.job ≡ old.job
  pub input : new.input ≡ old.input
  pub limit : new.limit ≡ old.limit
  pub turns : new.turns ≡ old.turns
  pub current : new.batch.current ≡ old.batch.current

-- ---- the end of a child is recorded

abbrev pub waiter_if : Bool → ℕ → List ℕ
waiter_if true id = id ∷ []
waiter_if false id = []

-- The end of the child at that index was recorded in the nursery, and the task with an id, which waits for it, continues a round
-- later if it is settled now.
pub record TellsEnd (old new : Runner) (nursery index : ℕ) (exc : Option Exc) (waiter : ℕ) : Type 0 where
  pub book : Changes old.world.book new.world.book nursery (with_child index exc old.world.tick)
  pub ready :
      HasNursery new.world.book nursery (λ (n : Nursery). IsReadied (waiter_if (is_settled n) waiter) Settled
      (record old { world = record old.world { book = new.world.book } }) new)

-- ---- effective deadlines that were lowered

-- nothing changed except what is known of sleepers, and which scopes are marked as changed
abbrev pub SeesOnly : Runner → Runner → Type 0
SeesOnly old new =
    new ≡ record old {
      world = record (old.world) { scopes = record (old.world.scopes) { changed = new.world.scopes.changed } };
      sleepers =
          new.sleepers;
    }
