-- The tasks of the program when the clock jumps, or when started tasks, events that were set, what was done to limiters and channels, or
-- changed scopes are taken from the world: nothing else changes.
use Rattle.std.specs.Prelude.{◌≡◌, ℕ, suc, Option, Some, None, List, []}
use Rattle.std.specs.Borrow.{Bor}
use Rattle.std.specs.Option.{option_map}
use Rattle.job_tree.specs.Tree.{Steps}
use Rattle.job_tree.specs.declared.object.Ask.{Ask}
use Rattle.exceptions.specs.Exceptions.{Label}
use Rattle.objects.specs.Held.{object_in}
use Rattle.objects.specs.Whats.{What}
use Rattle.task_machine.specs.declared.stop.TaskState.{TaskState}
use Rattle.task_machine.specs.declared.stop.TaskState.TheVariants.{Queued}
use Rattle.task_machine.specs.declared.task.Task.{Task}
use Rattle.task_machine.specs.declared.world.World.{World}
use Rattle.task_machine.specs.Worlds.{label_at}
use Rattle.run_refinement.specs.RunState.{RunState}
use Rattle.run_refinement.specs.Sharing.{RoundAct, InRecordOrder, AreAskedBefore, waits_in, serve_all, acts_on, find_get}

-- the tasks before and after are the same, and so is what is kept of them
pub record SameTasks (old new : RunState) : Type 0 where
  pub turns : new.turns ≡ old.turns
  pub task : (p : ℕ) → new.task p ≡ old.task p
  pub ended_task : (p : ℕ) → new.ended_task p ≡ old.ended_task p
  pub start : (p : ℕ) → new.start p ≡ old.start p
  pub children : (p : ℕ) → new.children p ≡ old.children p
  pub path : (p : ℕ) → new.path p ≡ old.path p

-- and so are the limiters and channels, and what is known of them
pub record SameObjects (old new : RunState) : Type 0 where
  pub through : new.through ≡ old.through
  pub object : (l : Label) → new.object l ≡ old.object l
  pub round : new.round ≡ old.round
  pub granted : (p : ℕ) → new.granted p ≡ old.granted p
  pub grants : (object asker : Label) (u : ℕ) → new.grants object asker u ≡ old.grants object asker u

-- what is granted to a task by what these acts did to the limiter or channel that it asked, which has this label
abbrev pub granted_by : RunState → ℕ → List RoundAct → ℕ → ℕ → Option Label → Option What
granted_by state t round s u None = None
granted_by state t round s u (Some l) =
    find_get s u (serve_all (waits_in state.task) t (option_map (object_in (waits_in state.task)) (state.object l)) (acts_on l round)).gets

abbrev pub granted_for : RunState → ℕ → List RoundAct → ℕ → TaskState → Option What
granted_for state t round s (Queued object ask u body) = granted_by state t round s u (label_at state.world object)
granted_for state t round s _ = None

abbrev pub granted_to : RunState → ℕ → List RoundAct → ℕ → Option Task → Option What
granted_to state t round s None = None
granted_to state t round s (Some task) = granted_for state t round s task.task_state

-- a task waits for what it asked of the limiter or channel of a label in a moment
pub record WaitsFor (world : World) (task : Task) (object asker : Label) (u : ℕ) : Type 0 where
  pub key : ℕ
  pub ask : Ask
  pub body : Bor Steps
  pub task_state : task.task_state ≡ Queued key ask u body
  pub labelled : label_at world key ≡ Some object
  pub is : task.label ≡ asker

-- What was done to limiters and channels in this moment is served, in the order of records, and it is known what is granted by that in the
-- next one.
pub record ServesRound (t : ℕ) (old new : RunState) : Type 0 where
  pub unserved : old.through ≡ t
  pub through : new.through ≡ suc t
  pub ordered : List RoundAct
  pub in_order : InRecordOrder old.path old.round ordered
  pub object :
      (l : Label) → option_map (object_in (waits_in new.task)) (new.object l)
      ≡ (serve_all (waits_in old.task) t (option_map (object_in (waits_in old.task)) (old.object l)) (acts_on l ordered)).object
  -- who is in a queue has asked by now
  pub asked : (l : Label) → AreAskedBefore (suc t) (new.object l)
  pub round : new.round ≡ []
  pub granted : (s : ℕ) → new.granted s ≡ granted_to old t ordered s (old.task s)
  -- it is recorded, and all else that was granted stays
  pub recorded : (s : ℕ) (task : Task) (object asker : Label) (u : ℕ) (w : What) → old.task s ≡ Some task →
      WaitsFor old.world task object asker u → new.granted s ≡ Some w → new.grants object asker u ≡ Some (record { at = suc t; what = w })
  pub kept : (object asker : Label) (u : ℕ) →
      ((s : ℕ) (task : Task) → old.task s ≡ Some task → WaitsFor old.world task object asker u → new.granted s ≡ None) →
      new.grants object asker u ≡ old.grants object asker u

-- the clock jumps from a moment in which all was served to a later one
pub record PassesOn (t u : ℕ) (old new : RunState) : Type 0 where
  pub served : old.through ≡ suc t
  pub through : new.through ≡ u
  pub object : (l : Label) → new.object l ≡ old.object l
  pub round : new.round ≡ []
  pub none_done : old.round ≡ []
  pub granted : (s : ℕ) → new.granted s ≡ old.granted s
  pub grants : (object asker : Label) (u : ℕ) → new.grants object asker u ≡ old.grants object asker u

-- the world with another moment, other tasks that were started, events that were set and acts on limiters and channels that were not
-- taken, and other scopes marked as changed
abbrev pub moved_world : World → ℕ → World → World
moved_world w u x = record w { tick = u; started = x.started; set = x.set; acts = x.acts; scopes = record (w.scopes) { changed = x.scopes.changed } }
