-- How a run begins: a world in which nothing has happened, and the root, which has not begun the job's steps.
use Rattle.std.specs.Prelude.{◌≡◌, ℕ, suc, List, [], ◌∷◌, Some, None, length}
use Rattle.input_lines.specs.Part.{buffer_of, range_of}
use Rattle.cancel_scopes.specs.Tree.{stack_of}
use Rattle.job_tree.specs.Tree.{Tree as Job}
use Rattle.exceptions.specs.Exceptions.{Label}
use Rattle.job_meaning.specs.Moments.{clock_of}
use Rattle.job_meaning.specs.Meaning.{root_label}
use Rattle.job_meaning.specs.Rest.{steps_left}
use Rattle.nursery_book.specs.Book.{nursery_at}
use Rattle.task_machine.specs.declared.stop.TaskState.TheVariants.{ToBegin}
use Rattle.task_machine.specs.declared.task.Task.{Task}
use Rattle.task_machine.specs.declared.world.World.{World}
use Rattle.task_machine.specs.Frames.{frames_of}
use Rattle.task_machine.specs.Worlds.{label_at, event_at}
use Rattle.run_refinement.specs.RunState.{RunState}

-- a world as `World::new` returns it for the clock of a job
pub record IsNewWorld (job : Job) (world : World) : Type 0 where
  pub clock : world.clock ≡ clock_of job.format
  pub tick : world.tick ≡ 0
  pub scopes : (key : ℕ) → stack_of world.scopes key ≡ None
  pub labels : (key : ℕ) → label_at world key ≡ None
  pub events : (key : ℕ) → event_at world key ≡ None
  pub set : world.set.items ≡ []
  pub acts : world.acts.items ≡ []
  pub book : (key : ℕ) → nursery_at world.book key ≡ None
  pub started : world.started.items ≡ []

-- a root as `Task::root` returns it, on the whole input
pub record IsRootTask (job : Job) (input : List ℕ) (task : Task) : Type 0 where
  pub label : task.label ≡ root_label job.name
  pub buffer : buffer_of task.part ≡ input
  pub range : range_of task.part ≡ record { from = 0; to = length input }
  pub home : task.home ≡ None
  pub frames : (children : ℕ → List ℕ) → frames_of children task.frames.items ≡ steps_left job.steps ∷ []
  pub own : task.own.items ≡ []
  pub task_state : task.task_state ≡ ToBegin 0
  pub entries : task.entries.items ≡ []
  pub cancelled_from : task.cancelled_from.items ≡ []
  pub cancelled : task.cancelled.items ≡ []

-- the root is the only task of the program, in a new world, and no turn was taken
pub record IsNewRunState (job : Job) (input : List ℕ) (state : RunState) : Type 0 where
  pub world : IsNewWorld job state.world
  pub root : Task
  pub is_root : IsRootTask job input root
  pub first : state.task 0 ≡ Some root
  pub others : (p : ℕ) → state.task (suc p) ≡ None
  pub ended_task : (p : ℕ) → state.ended_task p ≡ None
  pub start : state.start 0 ≡ 0
  pub children : state.children 0 ≡ []
  pub turns : state.turns ≡ 0
  pub path : state.path 0 ≡ 0 ∷ []
  pub through : state.through ≡ 0
  pub object : (l : Label) → state.object l ≡ None
  pub round : state.round ≡ []
  pub granted : (p : ℕ) → state.granted p ≡ None
  pub grants : (object asker : Label) (u : ℕ) → state.grants object asker u ≡ None
