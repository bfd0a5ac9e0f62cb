-- The tasks of a job, and the functions of tasks in a text.
use Rattle.std.specs.Prelude.{◌≡◌, ℕ, List, [], ◌∷◌, ◌++◌, codes}
use Rattle.job_tree.specs.Tree.{Step, ask_for, scope, nursery, event, object, start, repeat, attempt, Steps, stop, step, Handled, unhandled, except, Cleaned, uncleaned, finally}
use Rattle.trio_text.specs.Names.{name_text}

abbrev mutual
  -- the names of the started tasks, in the order of the job's text
  pub tasks_of : Steps → List (List ℕ)
  tasks_of stop = []
  tasks_of (step s ss) = tasks_in s ++ tasks_of ss

  pub tasks_in : Step → List (List ℕ)
  tasks_in (scope name deadline shield fail body) = tasks_of body
  tasks_in (nursery name deadline shield body) = tasks_of body
  tasks_in (event name body) = tasks_of body
  tasks_in (object name kind body) = tasks_of body
  tasks_in (ask_for name ask body) = tasks_of body
  tasks_in (start name over body) = name ∷ tasks_of body
  tasks_in (repeat count over body) = tasks_of body
  tasks_in (attempt body handler cleanup) = (tasks_of body ++ handled_tasks handler) ++ cleaned_tasks cleanup
  tasks_in s = []

  pub handled_tasks : Handled → List (List ℕ)
  handled_tasks unhandled = []
  handled_tasks (except name body) = tasks_of body

  pub cleaned_tasks : Cleaned → List (List ℕ)
  cleaned_tasks uncleaned = []
  cleaned_tasks (finally body) = tasks_of body

-- how the function of a task begins
abbrev pub function_head : List ℕ → List ℕ
function_head name = codes "async def " ++ name_text name ++ codes "("

-- the text has the head of a task's function
pub record HasFunction (name text : List ℕ) : Type 0 where
  pub front : List ℕ
  pub back : List ℕ
  pub is : text ≡ front ++ function_head name ++ back

-- the text has the head of a function for each of these tasks
abbrev pub HasFunctions : List (List ℕ) → List ℕ → Type 0
HasFunctions [] text = Unit {0}
HasFunctions (name ∷ names) text = HasFunction name text × HasFunctions names text
