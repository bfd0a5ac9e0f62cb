-- The tree of a job, step by step. Names and strings are lists of bytes.
use Rattle.std.specs.Prelude.{ℕ, Bool, Option, List}
use Rattle.job_tree.specs.declared.deadline.Deadline.{Deadline}
use Rattle.job_tree.specs.declared.format.Format.{Format}
use Rattle.job_tree.specs.declared.object.ObjectKind.{ObjectKind}
use Rattle.job_tree.specs.declared.object.Ask.{Ask}

mutual
  -- one step of a block
  pub data Step : Type 0 where
    sleep : (ticks : ℕ) → Step
    checkpoint : Step
    forever : Step
    pace : (per_tick : ℕ) → Step
    find : (text : List ℕ) → Step
    head : (count : ℕ) → Step
    longest : Step
    need : (text name : List ℕ) → Step
    raise : (name : List ℕ) → Step
    cancel : (name : List ℕ) → Step
    set_event : (name : List ℕ) → Step
    wait_for : (name : List ℕ) → Step
    ask_for : (name : List ℕ) → (ask : Ask) → (body : Steps) → Step
    close_channel : (name : List ℕ) → Step
    scope : (name : List ℕ) → (deadline : Deadline) → (shield fail : Bool) → (body : Steps) → Step
    nursery : (name : List ℕ) → (deadline : Deadline) → (shield : Bool) → (body : Steps) → Step
    event : (name : List ℕ) → (body : Steps) → Step
    object : (name : List ℕ) → (kind : ObjectKind) → (body : Steps) → Step
    start : (name : List ℕ) → (over : Option ℕ) → (body : Steps) → Step
    repeat : (count : ℕ) → (over : Bool) → (body : Steps) → Step
    attempt : (body : Steps) → (handler : Handled) → (cleanup : Cleaned) → Step

  -- the steps of a block, in order
  pub data Steps : Type 0 where
    stop : Steps
    step : (first : Step) → (rest : Steps) → Steps

  -- a `try` without a handler, or with a handler for exceptions of one name
  pub data Handled : Type 0 where
    unhandled : Handled
    except : (name : List ℕ) → (body : Steps) → Handled

  -- a `try` without a cleanup, or with one
  pub data Cleaned : Type 0 where
    uncleaned : Cleaned
    finally : (body : Steps) → Cleaned

-- a job: the format of its text, its name, which is also the name of its root task, and its steps
pub record Tree : Type 0 where
  pub format : Format
  pub name : List ℕ
  pub steps : Steps
