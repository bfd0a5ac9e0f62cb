-- The tasks of a run as the runner keeps them: the tasks that have not ended by their ids, and a row for each task
-- ever started.
use Rattle.std.specs.Prelude.{◌≡◌, ◌≢◌, ℕ, zero, suc, ◌+◌, ◌<◌, Option, Some, None, List, [], ◌∷◌, ◌++◌, length, slice_get}
use Rattle.std.specs.Option.{option_map}
use Rattle.exceptions.specs.Held.{exc_of}
use Rattle.exceptions.specs.declared.exc.Exc as held
use Rattle.task_table.specs.declared.live.Live.{Live}
use Rattle.task_table.specs.Live.{live_at}
use Rattle.task_machine.specs.Tasks.{lent_of}
use Rattle.task_machine.specs.States.{state_of}
use Rattle.task_machine.specs.declared.stop.Stop.{Stop}
use Rattle.task_machine.specs.declared.stop.Wake.{Wake}
use Rattle.task_machine.specs.declared.task.Task.{Task}
use Rattle.task_machine.specs.declared.world.World.{World}
use Rattle.task_machine.specs.Fitting.{Fits, waits_of}
use Rattle.task_machine.specs.Frames.{unboxed_exc}
use Rattle.task_machine.specs.Standing.{TurnsAs}
use Rattle.task_machine.specs.Waking.{IsInRangeTaskState, WakesFrom}
use Rattle.task_machine.specs.Waiters.{KeepsRest}
use Rattle.exceptions.specs.Exceptions.{Label}
use Rattle.job_meaning.specs.Sharing.{Grants}
use Rattle.objects.specs.Whats.{What}
use Rattle.objects.specs.declared.object.Object.{Object}
use Rattle.run_refinement.specs.RunState.{RunState, EndedTask}
use Rattle.run_refinement.specs.Sharing.{RoundAct}
use Rattle.task_table.specs.declared.rows.TaskRow.{TaskRow}
use Rattle.task_table.specs.declared.rows.Ended.{Ended}
use Rattle.task_table.specs.declared.task_table.Running.{Running}
use Rattle.task_table.specs.declared.task_table.TaskTable.{TaskTable}
use Rattle.task_table.specs.Rows.{ChildrenAreApart}

-- ---- what is kept of a task, by its row

-- the task with an id
abbrev pub running_at : TaskTable → ℕ → Option Running
running_at r id = live_at r.live id

abbrev pub row_at : TaskTable → ℕ → Option TaskRow
row_at r p = slice_get r.rows.items p

-- how many tasks were started
abbrev pub task_count : TaskTable → ℕ
task_count r = length r.rows.items

abbrev pub task_in : Option Running → Option Task
task_in None = None
task_in (Some x) = Some x.task

-- the task of a row, if it has not ended
abbrev pub task_unless : Option Ended → Option Running → Option Task
task_unless None x = task_in x
task_unless (Some e) x = None

abbrev pub task_by : Live Running → Option TaskRow → Option Task
task_by live None = None
task_by live (Some row) = task_unless row.end (live_at live row.task)

-- what is kept of an end
abbrev pub ended_task_from : Ended → EndedTask
ended_task_from e = record { label = e.label; end = e.tick; exc = option_map exc_of (unboxed_exc e.exc); entries = e.entries.items; cancelled_from = e.cancelled_from.items }

abbrev pub ended_task_by : Option TaskRow → Option EndedTask
ended_task_by None = None
ended_task_by (Some row) = option_map ended_task_from row.end

abbrev pub start_by : Option TaskRow → ℕ
start_by None = 0
start_by (Some row) = row.start

abbrev pub children_by : Option TaskRow → List ℕ
children_by None = []
children_by (Some row) = row.children.items

abbrev pub parent_by : Option TaskRow → ℕ
parent_by None = 0
parent_by (Some row) = row.parent

abbrev pub id_by : Option TaskRow → ℕ
id_by None = 0
id_by (Some row) = row.task

-- ---- tasks by the number of the row, which is the task's serial number

abbrev pub task_of : TaskTable → ℕ → Option Task
task_of r p = task_by r.live (row_at r p)

abbrev pub ended_task_of : TaskTable → ℕ → Option EndedTask
ended_task_of r p = ended_task_by (row_at r p)

abbrev pub start_of : TaskTable → ℕ → ℕ
start_of r p = start_by (row_at r p)

abbrev pub children_of : TaskTable → ℕ → List ℕ
children_of r p = children_by (row_at r p)

-- the row of the task that started it
abbrev pub parent_of : TaskTable → ℕ → ℕ
parent_of r p = parent_by (row_at r p)

-- the id that it has, or had
abbrev pub id_of : TaskTable → ℕ → ℕ
id_of r p = id_by (row_at r p)

-- the rows from the root's to one, of which there are at most the given number
abbrev pub path_by : ℕ → (ℕ → ℕ) → ℕ → List ℕ
path_by zero parent p = p ∷ []
path_by (suc n) parent zero = 0 ∷ []
path_by (suc n) parent (suc p) = path_by n parent (parent (suc p)) ++ suc p ∷ []

-- each was started by a task of an earlier row
abbrev pub path_of : TaskTable → ℕ → List ℕ
path_of r p = path_by p (parent_of r) p

-- what is known of the limiters and channels of a run
pub record Sharing : Type 0 where
  pub through : ℕ
  pub object : Label → Option Object
  pub round : List RoundAct
  pub granted : ℕ → Option What
  pub grants : Grants

-- the tasks of the program in this world, after the given number of turns
abbrev pub run_state : TaskTable → World → ℕ → Sharing → RunState
run_state r world turns shared =
    record {
      world = world;
      turns = turns;
      task = task_of r;
      ended_task = ended_task_of r;
      start = start_of r;
      children = children_of r;
      path = path_of r;
      through = shared.through;
      object = shared.object;
      round = shared.round;
      granted = shared.granted;
      grants = shared.grants;
    }

-- ---- rows and ids agree

-- a row of a task that has not ended, which has this id
pub record HasRow (r : TaskTable) (p id : ℕ) : Type 0 where
  pub row : TaskRow
  pub is : row_at r p ≡ Some row
  pub endless : row.end ≡ None
  pub id_is : row.task ≡ id

-- the task of the row has its id
pub record Lives (r : TaskTable) (p : ℕ) (row : TaskRow) : Type 0 where
  pub running : Running
  pub is : running_at r row.task ≡ Some running
  pub row_is : running.row ≡ p

-- Each task that has not ended has a row with its id, and each row of a task that has not ended has its task under
-- its id.
pub record IsTaskTable (r : TaskTable) : Type 0 where
  pub rows : (id : ℕ) (x : Running) → running_at r id ≡ Some x → HasRow r x.row id
  pub lives : (p : ℕ) (row : TaskRow) → row_at r p ≡ Some row → row.end ≡ None → Lives r p row
  pub tree : ChildrenAreApart r.rows.items
  -- each task but the root was started by one of an earlier row
  pub earlier : (p : ℕ) → 0 < p → p < task_count r → parent_of r p < p

-- ---- changes

-- nothing but this task and what is kept of it changed
pub record SameBut (old new : TaskTable) (s : ℕ) : Type 0 where
  pub many : task_count new ≡ task_count old
  pub task : (p : ℕ) → p ≢ s → task_of new p ≡ task_of old p
  pub ended_task : (p : ℕ) → p ≢ s → ended_task_of new p ≡ ended_task_of old p
  pub start : (p : ℕ) → start_of new p ≡ start_of old p
  pub children : (p : ℕ) → children_of new p ≡ children_of old p
  pub parent : (p : ℕ) → parent_of new p ≡ parent_of old p
  pub id : (p : ℕ) → id_of new p ≡ id_of old p

-- the root alone, in the first row, in tick 0
pub record HasRoot (r : TaskTable) (root : Task) (id : ℕ) : Type 0 where
  pub many : task_count r ≡ 1
  pub lives : running_at r id ≡ Some (record { task = root; row = 0 })
  pub others : (other : ℕ) → other ≢ id → running_at r other ≡ None
  pub task : task_of r 0 ≡ Some root
  pub none : (p : ℕ) → task_of r (p + 1) ≡ None
  pub ended_task : (p : ℕ) → ended_task_of r p ≡ None
  pub start : start_of r 0 ≡ 0
  pub children : children_of r 0 ≡ []

-- A task was started in that tick by the one of that row. It has the next row, and an id that no task had.
pub record Starts (old new : TaskTable) (parent : ℕ) (started : Task) (tick id : ℕ) : Type 0 where
  pub fresh : running_at old id ≡ None
  pub lives : running_at new id ≡ Some (record { task = started; row = task_count old })
  pub others : (other : ℕ) → other ≢ id → running_at new other ≡ running_at old other
  pub more : task_count new ≡ task_count old + 1
  pub task : task_of new (task_count old) ≡ Some started
  pub start : start_of new (task_count old) ≡ tick
  pub childless : children_of new (task_count old) ≡ []
  pub parent_is : parent_of new (task_count old) ≡ parent
  pub id_is : id_of new (task_count old) ≡ id
  pub child : children_of new parent ≡ children_of old parent ++ task_count old ∷ []
  pub same_task : (p : ℕ) → p < task_count old → task_of new p ≡ task_of old p
  pub same_ended_task : (p : ℕ) → ended_task_of new p ≡ ended_task_of old p
  pub same_start : (p : ℕ) → p < task_count old → start_of new p ≡ start_of old p
  pub same_children : (p : ℕ) → p < task_count old → p ≢ parent → children_of new p ≡ children_of old p
  pub same_parent : (p : ℕ) → p < task_count old → parent_of new p ≡ parent_of old p
  pub same_id : (p : ℕ) → p < task_count old → id_of new p ≡ id_of old p

-- a task may have a turn in this world
pub record MayTurn (world : World) (task : Task) (from : Wake) : Type 0 where
  pub fits : Fits (state_of task world) (waits_of task.task_state)
  pub in_range : IsInRangeTaskState task.task_state
  pub wake : WakesFrom task.task_state (lent_of task) world.book from

-- The task with an id had its turn, in which it stopped so. The others stay.
pub record HasTurn (old new : TaskTable) (was now : World) (id : ℕ) (wake : Wake) (stop : Stop) : Type 0 where
  pub row : ℕ
  pub before : Task
  pub after : Task
  pub lived : running_at old id ≡ Some (record { task = before; row = row })
  pub lives : running_at new id ≡ Some (record { task = after; row = row })
  pub others : (other : ℕ) → other ≢ id → running_at new other ≡ running_at old other
  pub task : task_of new row ≡ Some after
  pub same : SameBut old new row
  pub ended_task : ended_task_of new row ≡ ended_task_of old row
  pub keeps : KeepsRest id before after was now
  pub fits : Fits (state_of after now) (waits_of after.task_state)
  pub turn : TurnsAs (state_of before was) (state_of after now) wake stop

-- The task with an id has ended in that tick, with this exception or none. Its row keeps what is left of it.
pub record Ends (old new : TaskTable) (id tick : ℕ) (exc : Option held.Exc) : Type 0 where
  pub row : ℕ
  pub task : Task
  pub lived : running_at old id ≡ Some (record { task = task; row = row })
  pub removed : running_at new id ≡ None
  pub others : (other : ℕ) → other ≢ id → running_at new other ≡ running_at old other
  pub left : task_of new row ≡ None
  pub kept :
      ended_task_of new row
      ≡ Some (record {
        label = task.label;
        end = tick;
        exc = option_map exc_of exc;
        entries = task.entries.items;
        cancelled_from =
            task.cancelled_from.items;
      })
  pub same : SameBut old new row
