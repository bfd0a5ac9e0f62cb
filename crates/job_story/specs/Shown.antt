-- What the events of a story show of a cause that it names.
use Rattle.std.specs.Prelude.{◌≡◌, ◌≢◌, ◌⊎◌, ℕ, ◌+◌, Bool, Option, Some, None, is_some, true, List, [], ◌∷◌}
use Rattle.exceptions.specs.Exceptions.{Label, Exc}
use Rattle.exceptions.specs.Split.{is_cancelled as by_cancelled, drop}
use Rattle.cancel_scopes.specs.Sight.{Tick}
use Rattle.job_meaning.specs.Log.{Table}
use Rattle.job_meaning.specs.Walk.{Kind}
use Rattle.job_story.specs.Story.{During, before_asking, enters, is_cancelled, cancels, sets, waits}
use Rattle.job_story.specs.Events.{What, happens, ends, Event, event}
use Rattle.job_story.specs.Causes.{Cause, by_deadline, by_task, by_set, by_failure, by_cancellation, cause_of}

-- an event is one of these
abbrev pub IsIn : Event → List Event → Type 0
IsIn e [] = ⊥
IsIn e (x ∷ xs) = (e ≡ x) ⊎ IsIn e xs

-- a task entered the label with this deadline
pub record IsEntered (l : Label) (deadline : Tick) (all : List Event) : Type 0 where
  pub tick : ℕ
  pub task : Label
  pub kind : Kind
  pub shield : Bool
  pub entered : IsIn (event tick task (happens (enters kind l deadline shield))) all

-- the body of the nursery, or a task that was started in it, ended with the exception
abbrev pub IsEndIn : Label → ℕ → Label → Exc → List Event → Type 0
IsEndIn l t task e all = IsIn (event t task (happens (waits l (Some e)))) all ⊎ IsIn (event t task (ends (Some l) (Some e))) all

-- An event of the moment before the one from which the label is cancelled is what the cause says. A deadline is the one with which the
-- label was entered, and is exactly the moment from which it is cancelled. The exception of a member that failed has a leaf that is not
-- `Cancelled`, and that of a member that was cancelled has none.
abbrev pub IsShownFrom : ℕ → Label → List Event → Cause → Type 0
IsShownFrom from l all by_deadline = IsEntered l (Some from) all
IsShownFrom from l all (by_task task t) = (from ≡ t + 1) × IsIn (event t task (happens (cancels (Some l)))) all
IsShownFrom from l all (by_set task t) = (from ≡ t + 1) × IsIn (event t task (happens (sets (Some l)))) all
IsShownFrom from l all (by_failure task t) = (from ≡ t + 1) × (e : Exc) × (drop by_cancelled e ≢ None) × IsEndIn l t task e all
IsShownFrom from l all (by_cancellation task t) = (from ≡ t + 1) × (e : Exc) × (drop by_cancelled e ≡ None) × IsEndIn l t task e all

abbrev pub IsShown : Table → List Event → Label → Cause → Type 0
IsShown table all l c = (from : ℕ) × (table l ≡ Some from) × IsShownFrom from l all c

-- a scope or nursery is named, and it has a cause
abbrev pub IsCaused : Table → List Event → Option Label → Type 0
IsCaused table all by = (l : Label) × (by ≡ Some l) × (is_some (cause_of table all l) ≡ true)

-- where a task does not ask, that is said if the story names one
abbrev pub HasACauseFor : Table → List Event → Option Label → During → Type 0
HasACauseFor table all None (before_asking ask object) = Unit {0}
HasACauseFor table all by during = IsCaused table all by

-- an event that is a cancellation names a scope or nursery, and that one has a cause
abbrev pub HasACause : Table → List Event → What → Type 0
HasACause table all (happens (is_cancelled by during in_cleanup)) = HasACauseFor table all by during
HasACause table all _ = Unit {0}
