-- Children that a task starts.
use Rattle.std.specs.Prelude.{◌≡◌, ℕ, zero, suc, ◌+◌, Option, List, [], ◌∷◌, ◌++◌, Some, None, length}
use Rattle.input_lines.specs.Lines.{Range}
use Rattle.input_lines.specs.Part.{buffer_of, range_of}
use Rattle.input_lines.specs.Cuts.{cut_of}
use Rattle.input_lines.specs.declared.part.Part.{Part}
use Rattle.exceptions.specs.Exceptions.{Label}
use Rattle.job_tree.specs.Tree.{Steps}
use Rattle.job_meaning.specs.Moments.{a_round_after}
use Rattle.job_meaning.specs.Rest.{steps_left}
use Rattle.nursery_book.specs.Nursery.{End, Nursery, with_start}
use Rattle.nursery_book.specs.Book.{nursery_at, Updates}
use Rattle.task_machine.specs.declared.stop.TaskState.TheVariants.{ToBegin}
use Rattle.task_machine.specs.declared.task.Home.{Home}
use Rattle.task_machine.specs.declared.task.Task.{Task}
use Rattle.task_machine.specs.Fitting.{InBody}
use Rattle.task_machine.specs.Frames.{frames_of}
use Rattle.task_machine.specs.Stops.{Numbers}
use Rattle.task_machine.specs.States.{State, path_at, lent_at}

-- a task that was started with this label on this range of an input: it begins these steps in this moment, at this home
pub record IsChild (at : ℕ) (task : Task) (label : Label) (input : List ℕ) (range : Range) (body : Steps) (home : Home) : Type 0 where
  pub label_is : task.label ≡ label
  pub input_is : buffer_of task.part ≡ input
  pub range_is : range_of task.part ≡ range
  pub home_is : task.home ≡ Some home
  pub frames : (numbers : Numbers) → frames_of numbers task.frames.items ≡ steps_left body ∷ []
  pub own : task.own.items ≡ []
  pub task_state : task.task_state ≡ ToBegin at
  pub entries : task.entries.items ≡ []
  pub cancelled_from : task.cancelled_from.items ≡ []
  pub cancelled : task.cancelled.items ≡ []

-- the given number of children that run
abbrev pub running_children : ℕ → List End
running_children zero = []
running_children (suc k) = running_children k ++ None ∷ []

-- the home of a child that is started in a nursery after the given number of other new ones
abbrev pub home_at : ℕ → Nursery → ℕ → Home
home_at id n before = record { nursery = id; index = length n.children + before; scope = n.scope }

-- the moment in which a child begins that is started now
abbrev pub begins_in : State → ℕ
begins_in s = a_round_after s.clock s.tick

-- A child was started: it runs in the nursery with this key, and was not taken yet.
pub record StartsOne (before after : State) (id : ℕ) (label : Label) (part : Part) (body : Steps) : Type 0 where
  pub nursery : Nursery
  pub was : nursery_at before.book id ≡ Some nursery
  pub book : Updates before.book after.book id (Some (with_start nursery))
  pub task : Task
  pub started : after.started ≡ before.started ++ task ∷ []
  pub child : IsChild (begins_in before) task label (buffer_of part) (range_of part) body (home_at id nursery 0)

-- the children 0 to i - 1 of a `start .. over` of k cuts
abbrev pub AreChildren : State → ℕ → Nursery → List ℕ → ℕ → Steps → List Task → ℕ → Type 0
AreChildren s id n name k body tasks zero = tasks ≡ []
AreChildren s id n name k body tasks (suc i) =
    (before : List Task) × (last : Task) × (tasks ≡ before ++ last ∷ []) × AreChildren s id n name k body before i
    × IsChild (begins_in s) last (record { name = name; indices = path_at s ++ i ∷ [] }) (buffer_of s.part)
    (cut_of (buffer_of s.part) (lent_at s).range k i) body
    (home_at id n i)

-- the given number of them were started
pub record StartsOver (before after : State) (id : ℕ) (name : List ℕ) (k : ℕ) (body : Steps) (i : ℕ) : Type 0 where
  pub nursery : Nursery
  pub was : nursery_at before.book id ≡ Some nursery
  pub book : Updates before.book after.book id (Some (record nursery { children = nursery.children ++ running_children i }))
  pub tasks : List Task
  pub started : after.started ≡ before.started ++ tasks
  pub children : AreChildren before id nursery name k body tasks i

-- the children of a `start`, in the nursery in whose body the task is
abbrev pub StartsAll : State → State → ℕ → List ℕ → Option ℕ → Steps → Type 0
StartsAll before after id name None body =
    (part : Part) × (buffer_of part ≡ buffer_of before.part) × (range_of part ≡ (lent_at before).range)
    × StartsOne before after id (record { name = name; indices = path_at before }) part body
StartsAll before after id name (Some k) body = StartsOver before after id name k body k

pub record StartsChildren (before after : State) (name : List ℕ) (over : Option ℕ) (body : Steps) : Type 0 where
  pub id : ℕ
  pub at : InBody before.frames id
  pub started : StartsAll before after id name over body
