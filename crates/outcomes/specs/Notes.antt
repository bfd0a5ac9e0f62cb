-- What the events of a story say about a fault.
use Rattle.std.specs.Prelude.{ℕ, Bool, true, false, ◌&&◌, ◌||◌, not, Option, Some, None, List, [], ◌∷◌, ◌++◌, if◌then◌else◌}
use Rattle.std.specs.Str.{bytes_eq}
use Rattle.exceptions.specs.Exceptions.{Label, Exc, cancelled, raised, too_slow, group, Excs, no_parts, part}
use Rattle.job_story.specs.Story.{sleeps, is_cancelled, raises, awaits, queues, handles, replaces}
use Rattle.job_story.specs.Events.{What, happens, ends, Event}
use Rattle.job_story.specs.Limit.{is_start, start_if, last_event}
use Rattle.job_story.specs.Focus.{is_among}

-- ---- tasks that sleep forever

-- a task fell asleep without a moment at which it is due, or began to wait for an event
abbrev pub is_endless : What → Bool
is_endless (happens (sleeps None)) = true
is_endless (happens (awaits event)) = true
is_endless (happens (queues ask object lent left)) = true
is_endless _ = false

-- that is the last event of a task
abbrev pub sleeps_forever : Option Event → Bool
sleeps_forever None = false
sleeps_forever (Some e) = is_endless e.what

-- the tasks of which that is the last event, in the order in which the walk starts them
abbrev pub sleeping_among : List Event → List Event → List Label
sleeping_among all [] = []
sleeping_among all (e ∷ es) =
    start_if (is_start e.what && sleeps_forever (last_event e.task all None)) e.task (sleeping_among all es)

abbrev pub sleeping_in : List Event → List Label
sleeping_in es = sleeping_among es es

-- ---- cleanups that were cut

-- `Cancelled` was raised in a cleanup
abbrev pub cuts : What → Bool
cuts (happens (is_cancelled by during in_cleanup)) = in_cleanup
cuts _ = false

-- a label added at the end of others, if it is not among them
abbrev pub with_label : Label → List Label → List Label
with_label l ls = if is_among l ls then ls else ls ++ l ∷ []

-- the tasks that were cancelled in a cleanup, in the order of the events, each once
abbrev pub cut_after : List Label → List Event → List Label
cut_after ls [] = ls
cut_after ls (e ∷ es) = cut_after (if cuts e.what then with_label e.task ls else ls) es

abbrev pub cut_in : List Event → List Label
cut_in es = cut_after [] es

-- ---- exceptions that were lost

-- an exception is or contains one with this name that a `raise` or a `need` made
abbrev mutual
  pub has_leaf : List ℕ → Exc → Bool
  has_leaf name cancelled = false
  has_leaf name (raised other task tick) = bytes_eq other name
  has_leaf name (too_slow scope tick) = false
  has_leaf name (group whose parts) = some_leaf name parts

  pub some_leaf : List ℕ → Excs → Bool
  some_leaf name no_parts = false
  some_leaf name (part e es) = has_leaf name e || some_leaf name es

abbrev pub raises_it : List ℕ → What → Bool
raises_it name (happens (raises other)) = bytes_eq other name
raises_it name _ = false

abbrev pub handles_it : List ℕ → What → Bool
handles_it name (happens (handles matched rest)) = has_leaf name matched
handles_it name _ = false

-- the root task ends with an exception with this name
abbrev pub escapes : List ℕ → What → Bool
escapes name (ends None (Some e)) = has_leaf name e
escapes name _ = false

-- some event passes a test
abbrev pub some_event : (What → Bool) → List Event → Bool
some_event test [] = false
some_event test (e ∷ es) = test e.what || some_event test es

-- An exception with this name is raised, no handler handles one with this name, and the outcome of the root task
-- contains none. Exceptions are distinguished only by their names.
abbrev pub is_lost : List ℕ → List Event → Bool
is_lost name es =
    some_event (raises_it name) es && (not (some_event (handles_it name) es) && not (some_event (escapes name) es))

-- the exception of a cleanup replaces an exception with this name, and is none itself
abbrev pub replaces_it : List ℕ → What → Bool
replaces_it name (happens (replaces lost fresh)) = has_leaf name lost && not (has_leaf name fresh)
replaces_it name _ = false

-- Whether an exception with this name is lost in a job that has not ended, by the events until then: one that a nursery or a task
-- still holds is not lost.
abbrev pub is_lost_so_far : List ℕ → List Event → Bool
is_lost_so_far name es =
    some_event (raises_it name) es && (not (some_event (handles_it name) es) && some_event (replaces_it name) es)

-- a `raise` step raises an exception with this name
abbrev pub is_raised : List ℕ → List Event → Bool
is_raised name es = some_event (raises_it name) es
