-- A turn of one task of the program, as the code has it, without the definitions; and what its stop says.
use Rattle.std.specs.Prelude.{◌≡◌, ◌≢◌, ◌⊎◌, ℕ, suc, ◌+◌, ◌<◌, ◌≤◌, ◌^◌, Bool, false, Some, None, List, [], ◌∷◌, ◌++◌, length, map, slice_get}
use Rattle.std.specs.Option.{option_map}
use Rattle.input_lines.specs.Part.{buffer_of, range_of}
use Rattle.exceptions.specs.Held.{exc_of}
use Rattle.cancel_scopes.specs.Sight.{Tick, seen}
use Rattle.cancel_scopes.specs.Tree.{outer_of}
use Rattle.input_lines.specs.declared.request.Request.{Request}
use Rattle.nursery_book.specs.Book.{HasNursery}
use Rattle.job_tree.specs.Tree.{Tree as Job}
use Rattle.exceptions.specs.Exceptions.{Label}
use Rattle.turn_semantics.specs.Midway.{Tables}
use Rattle.job_tree.specs.Tree.{Steps}
use Rattle.std.specs.Borrow.{Bor}
use Rattle.task_machine.specs.declared.stop.ObjectRequest.{ObjectRequest}
use Rattle.job_meaning.specs.Moments.{tick_of, a_round_after, wakes_at}
use Rattle.job_meaning.specs.declared.clock.Clock.{Clock}
use Rattle.job_meaning.specs.declared.clock.Clock.TheVariants.{ByTicks as by_ticks, ByRounds as by_rounds}
use Rattle.job_meaning.specs.Rest as rest
use Rattle.interleavings.specs.Interleaving.{Started}
use Rattle.task_machine.specs.States.{state_of}
use Rattle.task_machine.specs.declared.stop.TaskState.TheVariants.{Asked, Asleep, Waiting, Queued, GivingUp, Awaits}
use Rattle.task_machine.specs.declared.stop.Purpose.{Purpose}
use Rattle.task_machine.specs.declared.stop.Stop.{Stop}
use Rattle.task_machine.specs.declared.stop.Stop.TheVariants.{Ask, Sleep, WaitFor, Queue, GiveUp, Wait, Ended}
use Rattle.task_machine.specs.declared.stop.Wake.{Wake}
use Rattle.task_machine.specs.declared.task.Task.{Task}
use Rattle.task_machine.specs.declared.world.World.{World}
use Rattle.task_machine.specs.Fitting.{Fits, waits_of}
use Rattle.task_machine.specs.Standing.{TurnsAs}
use Rattle.task_machine.specs.Tasks.{scope_of, lent_of}
use Rattle.task_machine.specs.Waking.{IsInRangeTaskState}
use Rattle.task_machine.specs.Worlds.{event_at, label_at}
use Rattle.run_refinement.specs.RunState.{RunState, Refines}
use Rattle.run_refinement.specs.Sharing.{round_act, asked_by}
use Rattle.run_refinement.specs.Turn.{IsSound, serials_from, leaving_by}
use Rattle.run_refinement.specs.Ready.{MayGo}

-- The task with this serial number, one of m, had its turn. What it started waits in the world, and has the next serial
-- numbers.
pub record TakesTurn (t m s : ℕ) (old new : RunState) (before after : Task) (wake : Wake) (stop : Stop) : Type 0 where
  pub task : old.task s ≡ Some before
  pub goes : MayGo old.world (old.granted s) before wake
  -- the task and the world
  pub stays :
      after ≡ record before {
        frames = after.frames;
        own = after.own;
        task_state = after.task_state;
        entries = after.entries;
        cancelled_from = after.cancelled_from;
        cancelled = after.cancelled;
      }
  pub world :
      new.world ≡ record old.world {
        scopes = new.world.scopes;
        labels = new.world.labels;
        events = new.world.events;
        set = new.world.set;
        acts = new.world.acts;
        book = new.world.book;
        started =
            new.world.started;
      }
  pub sound : IsSound old.world.scopes
  pub sound_after : IsSound new.world.scopes
  pub none_left : old.world.started.items ≡ []
  pub none_set : old.world.set.items ≡ []
  pub none_done : old.world.acts.items ≡ []
  pub fits_after : Fits (state_of after new.world) (waits_of after.task_state)
  pub in_range : IsInRangeTaskState after.task_state
  pub turn : TurnsAs (state_of before old.world) (state_of after new.world) wake stop
  -- the state
  pub turns : new.turns ≡ old.turns + 1
  pub task_after : new.task s ≡ Some after
  pub child_after : (i : ℕ) → new.task (m + i) ≡ slice_get new.world.started.items i
  pub other_after : (p : ℕ) → p < m → p ≢ s → new.task p ≡ old.task p
  pub ended_task_after : (p : ℕ) → new.ended_task p ≡ old.ended_task p
  pub start_after : (p : ℕ) → p < m → new.start p ≡ old.start p
  pub start_child : (i : ℕ) → i < length new.world.started.items → new.start (m + i) ≡ tick_of old.world.clock
      (a_round_after old.world.clock t)
  pub more_children : new.children s ≡ old.children s ++ serials_from m (length new.world.started.items)
  pub children_after : (p : ℕ) → p < m → p ≢ s → new.children p ≡ old.children p
  pub no_children : (i : ℕ) → i < length new.world.started.items → new.children (m + i) ≡ []
  pub path_after : (p : ℕ) → p < m → new.path p ≡ old.path p
  pub path_child : (i : ℕ) → i < length new.world.started.items → new.path (m + i) ≡ old.path s ++ (m + i) ∷ []
  -- limiters and channels: nothing was served yet of what was done in this moment
  pub unserved : old.through ≡ t
  pub through_after : new.through ≡ old.through
  pub object_after : (l : Label) → new.object l ≡ old.object l
  pub round_after : new.round ≡ old.round ++ (map (round_act s) new.world.acts.items ++ asked_by s after (label_at new.world) stop)
  pub granted_after : (p : ℕ) → p ≢ s → new.granted p ≡ old.granted p
  pub granted_task : new.granted s ≡ None
  pub grants_after : (object asker : Label) (u : ℕ) → new.grants object asker u ≡ old.grants object asker u

-- ---- what a stop says

-- a task requests that on the part that it has
pub record Asks (task : Task) (request : Request) : Type 0 where
  pub purpose : Purpose
  pub task_state : task.task_state ≡ Asked request.kernel purpose
  pub buffer : buffer_of request.part ≡ (lent_of task).input
  pub range : range_of request.part ≡ (lent_of task).range

-- where a moment is a tick, a task falls asleep only if it sees nothing
abbrev pub IsUnseen : Clock → Bool → Type 0
IsUnseen by_ticks seen_now = seen_now ≡ false
IsUnseen by_rounds seen_now = Unit {0}

-- a task fell asleep in this moment: it sleeps until a later one, not too far away
pub record FallsAsleep (world : World) (task : Task) (due : ℕ) : Type 0 where
  pub paced : Bool
  pub ticks : ℕ
  pub task_state : task.task_state ≡ Asleep paced ticks world.tick
  pub short : ticks ≤ 2 ^ 40
  pub due_is : due ≡ wakes_at world.clock ticks world.tick
  pub later : world.tick < due
  pub unseen : IsUnseen world.clock (seen (outer_of world.scopes (scope_of task)) world.tick)

-- a task waits for an event since this moment
pub record WaitsNow (world : World) (task : Task) (event : ℕ) : Type 0 where
  pub task_state : task.task_state ≡ Waiting event world.tick
  pub set : Tick
  pub is_event : event_at world event ≡ Some set

-- A task was cancelled at a checkpoint in this moment, and raises in the next one; or it did not ask a limiter or channel, and raises in the
-- one after that.
pub record GivesUp (world : World) (task : Task) (due : ℕ) : Type 0 where
  pub since : ℕ
  pub since_is : (since ≡ world.tick) ⊎ (since ≡ suc world.tick)
  pub task_state : task.task_state ≡ GivingUp since
  pub due_is : due ≡ suc since

-- a task waits for that nursery, whose body ended in this moment, the last of its members so far
pub record AwaitsNow (world : World) (task : Task) (id : ℕ) : Type 0 where
  pub task_state : task.task_state ≡ Awaits id world.tick
  pub last : HasNursery world.book id (λ n. n.last ≡ world.tick)

-- a task asks this of an open limiter or channel in this moment
pub record AsksNow (world : World) (task : Task) (request : ObjectRequest) : Type 0 where
  pub body : Bor Steps
  pub task_state : task.task_state ≡ Queued request.object request.ask world.tick body
  pub label : Label
  pub labelled : label_at world request.object ≡ Some label
  pub buffer : buffer_of request.part ≡ (lent_of task).input
  pub range : range_of request.part ≡ (lent_of task).range

abbrev pub StopSays : World → Task → Stop → Type 0
StopSays world task (Ask request) = Asks task request
StopSays world task (Sleep due) = FallsAsleep world task due
StopSays world task (WaitFor event) = WaitsNow world task event
StopSays world task (Queue request) = AsksNow world task request
StopSays world task (GiveUp due) = GivesUp world task due
StopSays world task (Wait id) = AwaitsNow world task id
StopSays world task (Ended exc) = Unit {0}

-- the task of the definitions has ended, where the code's has
abbrev pub EndsAs : Stop → ℕ → Started → Type 0
EndsAs (Ask request) t q = Unit {0}
EndsAs (Sleep due) t q = Unit {0}
EndsAs (WaitFor event) t q = Unit {0}
EndsAs (Queue request) t q = Unit {0}
EndsAs (GiveUp due) t q = Unit {0}
EndsAs (Wait id) t q = Unit {0}
EndsAs (Ended exc) t q = q.rest.stopped ≡ rest.at_end t (option_map exc_of exc)

-- The tasks of the program, where the task with this serial number stopped so, and its end is not recorded yet if it ended.
pub record StoppedIn (k : Tables) (job : Job) (input : List ℕ) (t m s : ℕ) (stop : Stop) (state : RunState) : Type 0 where
  pub is : Refines k job input t m (leaving_by stop s) state
  pub ended : EndsAs stop t (is.interleaving.at s)
