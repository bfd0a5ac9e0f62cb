-- What is granted by limiters and channels at the end of a moment: who gets it waits no more, and continues a round later.
use Rattle.std.specs.Prelude.{◌≡◌, ◌≤◌, ℕ, suc, Option, None, Some, IsSome, List, [], ◌∷◌, ◌++◌, All, map, if◌then◌else◌}
use Rattle.std.specs.Borrow.{Bor}
use Rattle.clock.specs.Clock.{due_of, Updates, SameTime}
use Rattle.clock.specs.Sleeping.{Moves, KeepsSights}
use Rattle.job_tree.specs.Tree.{Steps}
use Rattle.job_tree.specs.declared.object.Ask.{Ask}
use Rattle.exceptions.specs.Exceptions.{Label}
use Rattle.job_meaning.specs.GrantTable.{made_in, is_asking}
use Rattle.job_meaning.specs.declared.grant_table.Granted.{Granted as Recorded}
use Rattle.objects.specs.Held.{IsGrantOf}
use Rattle.task_machine.specs.Serving.{queue_of}
use Rattle.task_machine.specs.Worlds.{label_at}
use Rattle.task_machine.specs.declared.world.World.{World}
use Rattle.objects.specs.declared.given.Given.{Given}
use Rattle.task_machine.specs.declared.stop.TaskState.TheVariants.{Queued}
use Rattle.task_machine.specs.Tasks.{lent_of}
use Rattle.task_table.specs.declared.entry.Call.TheVariants.{Granted}
use Rattle.task_table.specs.declared.task_table.Running.{Running}
use Rattle.task_table.specs.declared.task_table.TaskTable.{TaskTable}
use Rattle.task_table.specs.Entries.{Added}
use Rattle.task_table.specs.Rows.{times}
use Rattle.task_table.specs.TaskTable.{running_at, id_of}
use Rattle.job_runner.specs.declared.runner.Runner.{Runner}
use Rattle.job_runner.specs.Shared.{later_calls}

-- the task of a ticket, by its id
abbrev pub getter_of : TaskTable → Given → ℕ
getter_of table g = id_of table g.who.row

-- how it continues
abbrev pub call_of : TaskTable → Given → Added
call_of table g = (getter_of table g, Granted g.grant)

-- It waits for what it asked in that moment, and has a timer.
pub record MayGet (r : Runner) (g : Given) : Type 0 where
  pub running : Running
  pub lives : running_at r.task_table (getter_of r.task_table g) ≡ Some running
  pub row_is : running.row ≡ g.who.row
  pub object : ℕ
  pub ask : Ask
  pub body : Bor Steps
  pub queued : running.task.task_state ≡ Queued object ask g.who.since body
  pub timed : IsSome (due_of r.clock (getter_of r.task_table g))
  pub lent : IsGrantOf (lent_of running.task).input g.grant

-- all of them do, and nobody is granted something twice
pub record MayGetAll (r : Runner) (given : List Given) : Type 0 where
  pub each : All (MayGet r) given
  pub once : (row : ℕ) → times row (map (λ (g : Given). g.who.row) given) ≤ 1

-- the label of the limiter or channel for which a task waits
abbrev pub queue_label : World → Option ℕ → Option Label
queue_label world None = None
queue_label world (Some key) = label_at world key

-- what is recorded of a grant, by the labels of the limiter or channel, if there is one, and of the task
abbrev pub recorded_for : ℕ → Option Label → Label → Given → (object asker : Label) → ℕ → Option Recorded → Option Recorded
recorded_for t None task g object asker u before = before
recorded_for t (Some label) task g object asker u before =
    if is_asking label task g.who.since object asker u then Some (record { at = suc t; grant = g.grant }) else before

abbrev pub recorded_by : World → Option Running → Given → (object asker : Label) → ℕ → Option Recorded → Option Recorded
recorded_by world None g object asker u before = before
recorded_by world (Some x) g object asker u before =
    recorded_for world.tick (queue_label world (queue_of x.task.task_state)) x.task.label g object asker u before

-- what is recorded of all of them, one after the other
abbrev pub recorded_all : TaskTable → World → List Given → (object asker : Label) → ℕ → Option Recorded → Option Recorded
recorded_all table world [] object asker u before = before
recorded_all table world (g ∷ given) object asker u before =
    recorded_all table world given object asker u (recorded_by world (running_at table (getter_of table g)) g object asker u before)

-- a grant was recorded for the task with an id
pub record Records (id : ℕ) (g : Given) (old new : Runner) : Type 0 where
  pub made : (object asker : Label) (u : ℕ) →
      made_in new.grants object asker u
      ≡ recorded_by old.world (running_at old.task_table id) g object asker u (made_in old.grants object asker u)
  pub rest : new ≡ record old { grants = new.grants }

-- It was granted, and that is recorded: the task has no timer any more, sees no cancellation, and continues a round later.
pub record Grants (g : Given) (old new : Runner) : Type 0 where
  pub timers : Updates old.clock new.clock (getter_of old.task_table g) None
  pub time : SameTime old.clock new.clock
  pub scopes : Moves old.sleepers new.sleepers (getter_of old.task_table g) None
  pub sights : KeepsSights old.sleepers new.sleepers
  pub later : later_calls new ≡ later_calls old ++ call_of old.task_table g ∷ []
  pub current : new.later.current ≡ old.later.current
  pub made : (object asker : Label) (u : ℕ) →
      made_in new.grants object asker u
      ≡ recorded_by old.world (running_at old.task_table (getter_of old.task_table g)) g object asker u (made_in old.grants object asker u)
  pub rest : new ≡ record old { clock = new.clock; sleepers = new.sleepers; later = new.later; grants = new.grants }

-- All these grants were recorded.
abbrev pub RecordsAll : List Given → Runner → Runner → Type 0
RecordsAll given old new =
    (object asker : Label) (u : ℕ) →
    made_in new.grants object asker u ≡ recorded_all old.task_table old.world given object asker u (made_in old.grants object asker u)

-- nothing else changes
abbrev pub GrantsOnly : Runner → Runner → Type 0
GrantsOnly old new = new ≡ record old { clock = new.clock; sleepers = new.sleepers; later = new.later; grants = new.grants }

-- What was done to limiters and channels in the present moment was served, and the tasks that were granted something continue a round
-- later.
pub record ServesRound (old new : Runner) : Type 0 where
  pub through : new.through ≡ suc old.world.tick
  pub none_done : new.round.items ≡ []
  pub rest :
      new
      ≡ record old {
        objects = new.objects;
        through = new.through;
        round = new.round;
        clock = new.clock;
        sleepers = new.sleepers;
        later = new.later;
        grants = new.grants;
      }
