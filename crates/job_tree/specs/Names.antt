-- The names that a job defines, and its size.
use Rattle.std.specs.Prelude.{ℕ, ◌+◌, ◌*◌, Option, Some, None, List, [], ◌∷◌, ◌++◌}
use Rattle.std.specs.List.{IsDistinct}
use Rattle.std.specs.Str.{bytes_eq}
use Rattle.job_tree.specs.Tree.{Step, sleep, checkpoint, forever, pace, find, head, longest, need, raise, cancel, set_event, wait_for, ask_for, close_channel, scope, nursery, event, object, start, repeat, attempt, Steps, stop, step, Handled, unhandled, except, Cleaned, uncleaned, finally, Tree}

-- the names of scopes, nurseries, events, limiters, channels and started tasks, in the order of the text
abbrev mutual
  pub names_of : Steps → List (List ℕ)
  names_of stop = []
  names_of (step s ss) = names_in s ++ names_of ss

  pub names_in : Step → List (List ℕ)
  names_in (sleep n) = []
  names_in checkpoint = []
  names_in forever = []
  names_in (pace k) = []
  names_in (find text) = []
  names_in (head n) = []
  names_in longest = []
  names_in (need text name) = []
  names_in (raise name) = []
  names_in (cancel name) = []
  names_in (set_event name) = []
  names_in (wait_for name) = []
  names_in (ask_for name ask body) = names_of body
  names_in (close_channel name) = []
  names_in (scope name deadline shield fail body) = name ∷ names_of body
  names_in (nursery name deadline shield body) = name ∷ names_of body
  names_in (event name body) = name ∷ names_of body
  names_in (object name kind body) = name ∷ names_of body
  names_in (start name over body) = name ∷ names_of body
  names_in (repeat count over body) = names_of body
  names_in (attempt body handler cleanup) = (names_of body ++ handled_names handler) ++ cleaned_names cleanup

  pub handled_names : Handled → List (List ℕ)
  handled_names unhandled = []
  handled_names (except name body) = names_of body

  pub cleaned_names : Cleaned → List (List ℕ)
  cleaned_names uncleaned = []
  cleaned_names (finally body) = names_of body

-- no name is given twice, including the job's own
abbrev pub GivesNamesOnce : Tree → Type 0
GivesNamesOnce job = IsDistinct bytes_eq (job.name ∷ names_of job.steps)

-- how many times a `start` runs its body
abbrev pub copies_of : Option ℕ → ℕ
copies_of None = 1
copies_of (Some k) = k

-- How many step instances a block has. Each step counts once; a `start .. over K` counts K times together with its body; a
-- `repeat N` counts once, and for each of its N passes once more with its body.
abbrev mutual
  pub size_of : Steps → ℕ
  size_of stop = 0
  size_of (step s ss) = size_in s + size_of ss

  pub size_in : Step → ℕ
  size_in (sleep n) = 1
  size_in checkpoint = 1
  size_in forever = 1
  size_in (pace k) = 1
  size_in (find text) = 1
  size_in (head n) = 1
  size_in longest = 1
  size_in (need text name) = 1
  size_in (raise name) = 1
  size_in (cancel name) = 1
  size_in (set_event name) = 1
  size_in (wait_for name) = 1
  size_in (ask_for name ask body) = 1 + size_of body
  size_in (close_channel name) = 1
  size_in (scope name deadline shield fail body) = 1 + size_of body
  size_in (nursery name deadline shield body) = 1 + size_of body
  size_in (event name body) = 1 + size_of body
  size_in (object name kind body) = 1 + size_of body
  size_in (start name over body) = copies_of over * (1 + size_of body)
  size_in (repeat count over body) = 1 + count * (1 + size_of body)
  size_in (attempt body handler cleanup) = 1 + size_of body + handled_size handler + cleaned_size cleanup

  pub handled_size : Handled → ℕ
  handled_size unhandled = 0
  handled_size (except name body) = size_of body

  pub cleaned_size : Cleaned → ℕ
  cleaned_size uncleaned = 0
  cleaned_size (finally body) = size_of body
