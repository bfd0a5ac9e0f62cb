-- The names that the steps of a job use: of scopes, nurseries, events, limiters, channels, tasks and exceptions.
use Rattle.std.specs.Prelude.{◌≡◌, ℕ, Bool, ◌||◌, List, [], ◌∷◌, ◌++◌, codes, fold, if◌then◌else◌}
use Rattle.std.specs.List.{list_any}
use Rattle.std.specs.Str.{bytes_eq}
use Rattle.job_tree.specs.Tree.{Step, need, raise, ask_for, scope, nursery, event, object, start, repeat, attempt, Steps, stop, step, Handled, unhandled, except, Cleaned, uncleaned, finally, Tree}
use Rattle.job_tree.specs.Names.{names_of, names_in}
use Rattle.trio_text.specs.declared.words.Words.{Words}

-- whether a name is one of these
abbrev pub among : List (List ℕ) → List ℕ → Bool
among names name = list_any (bytes_eq name) names

-- the names after one more is noted
abbrev pub noted : List (List ℕ) → List ℕ → List (List ℕ)
noted names name = if among names name then names else names ++ name ∷ []

-- each of the names once, in the order of their first uses
abbrev pub once : List (List ℕ) → List (List ℕ)
once names = fold noted [] names

-- whether it is the exception that a scope with `fail` raises
unfoldable pub is_too_slow : List ℕ → Bool
is_too_slow name = bytes_eq name (codes "TooSlow")

-- whether it is the exception that a `receive` raises where the channel is closed, or a `send`
unfoldable pub is_end_of_channel : List ℕ → Bool
is_end_of_channel name = bytes_eq name (codes "EndOfChannel")

unfoldable pub is_closed_resource : List ℕ → Bool
is_closed_resource name = bytes_eq name (codes "ClosedResource")

-- whether it is an exception that Trio raises, for which Trio has a class
abbrev pub is_in_trio : List ℕ → Bool
is_in_trio name = (is_too_slow name || is_end_of_channel name) || is_closed_resource name

-- the exceptions with this name that need a class
abbrev pub class_needed : List ℕ → List (List ℕ)
class_needed name = if is_in_trio name then [] else name ∷ []

-- the exceptions that a step without a block raises
abbrev pub plain_exceptions : Step → List (List ℕ)
plain_exceptions (need text name) = class_needed name
plain_exceptions (raise name) = class_needed name
plain_exceptions s = []

abbrev mutual
  -- the exceptions that need a class, at each place where they are raised or handled, in the order of the text
  pub exceptions_of : Steps → List (List ℕ)
  exceptions_of stop = []
  exceptions_of (step s ss) = exceptions_in s ++ exceptions_of ss

  pub exceptions_in : Step → List (List ℕ)
  exceptions_in (scope name deadline shield fail body) = exceptions_of body
  exceptions_in (nursery name deadline shield body) = exceptions_of body
  exceptions_in (event name body) = exceptions_of body
  exceptions_in (object name kind body) = exceptions_of body
  exceptions_in (ask_for name ask body) = exceptions_of body
  exceptions_in (start name over body) = exceptions_of body
  exceptions_in (repeat count over body) = exceptions_of body
  exceptions_in (attempt body handler cleanup) = (exceptions_of body ++ handled_exceptions handler) ++ cleaned_exceptions cleanup
  exceptions_in s = plain_exceptions s

  pub handled_exceptions : Handled → List (List ℕ)
  handled_exceptions unhandled = []
  handled_exceptions (except name body) = class_needed name ++ exceptions_of body

  pub cleaned_exceptions : Cleaned → List (List ℕ)
  cleaned_exceptions uncleaned = []
  cleaned_exceptions (finally body) = exceptions_of body

abbrev mutual
  -- the names of nurseries, in the order of the text
  pub nurseries_of : Steps → List (List ℕ)
  nurseries_of stop = []
  nurseries_of (step s ss) = nurseries_in s ++ nurseries_of ss

  pub nurseries_in : Step → List (List ℕ)
  nurseries_in (scope name deadline shield fail body) = nurseries_of body
  nurseries_in (nursery name deadline shield body) = name ∷ nurseries_of body
  nurseries_in (event name body) = nurseries_of body
  nurseries_in (object name kind body) = nurseries_of body
  nurseries_in (ask_for name ask body) = nurseries_of body
  nurseries_in (start name over body) = nurseries_of body
  nurseries_in (repeat count over body) = nurseries_of body
  nurseries_in (attempt body handler cleanup) = (nurseries_of body ++ handled_nurseries handler) ++ cleaned_nurseries cleanup
  nurseries_in s = []

  pub handled_nurseries : Handled → List (List ℕ)
  handled_nurseries unhandled = []
  handled_nurseries (except name body) = nurseries_of body

  pub cleaned_nurseries : Cleaned → List (List ℕ)
  cleaned_nurseries uncleaned = []
  cleaned_nurseries (finally body) = nurseries_of body

-- the names in a program: those of the job's tasks and of what its steps open, and which of them are nurseries
pub record Known : Type 0 where
  pub given : List (List ℕ)
  pub nurseries : List (List ℕ)

-- those of a job
abbrev pub known_of : Tree → Known
known_of job = record { given = once (job.name ∷ names_of job.steps); nurseries = once (nurseries_of job.steps) }

-- the exceptions of a job that get a class, in the order of their first uses
abbrev pub classes_of : Tree → List (List ℕ)
classes_of job = once (exceptions_of job.steps)

-- those that the code has collected
abbrev pub known_in : Words → Known
known_in words = record { given = words.given.keys; nurseries = words.nurseries.keys }

-- what the code has collected before and after it looked at something that uses these names
pub record Notes (names nurseries exceptions : List (List ℕ)) (old new : Words) : Type 0 where
  pub given : new.given.keys ≡ fold noted old.given.keys names
  pub opened : new.nurseries.keys ≡ fold noted old.nurseries.keys nurseries
  pub raised : new.raised.keys ≡ fold noted old.raised.keys exceptions

abbrev pub NotesSteps : Steps → Words → Words → Type 0
NotesSteps steps = Notes (names_of steps) (nurseries_of steps) (exceptions_of steps)

abbrev pub NotesStep : Step → Words → Words → Type 0
NotesStep s = Notes (names_in s) (nurseries_in s) (exceptions_in s)
