-- Whether a block has a step of some kind, at any depth.
use Rattle.std.specs.Prelude.{ℕ, Bool, true, false, ◌&&◌, ◌||◌, List, codes}
use Rattle.std.specs.Str.{bytes_eq}
use Rattle.job_tree.specs.declared.deadline.Deadline.{Deadline}
use Rattle.job_tree.specs.declared.deadline.Deadline.TheVariants.{Never, After, At}
use Rattle.job_tree.specs.declared.object.ObjectKind.TheVariants.{Limiter}
use Rattle.job_tree.specs.declared.object.Ask.{Ask}
use Rattle.job_tree.specs.declared.object.Ask.TheVariants.{Acquire, Send, Receive}
use Rattle.job_tree.specs.Tree.{Step, sleep, checkpoint, forever, pace, find, head, longest, need, raise, cancel, set_event, wait_for, ask_for, close_channel, scope, nursery, event, object, start, repeat, attempt, Steps, stop, step, Handled, unhandled, except, Cleaned, uncleaned, finally}
use Rattle.job_lint.specs.declared.sought.Sought.{Sought}
use Rattle.job_lint.specs.declared.sought.Sought.TheVariants.{Cancel, Raise, Fail, Failure, Wait, Set, Await, Asking, Close, Looped, Nested, Held, Inverted}

-- ---- the kinds

abbrev pub cancels : List ℕ → Step → Bool
cancels name (cancel other) = bytes_eq name other
cancels name _ = false

-- whether a step that asks for something raises an exception with a name where the channel is closed
abbrev pub closed_raises : List ℕ → Ask → Bool
closed_raises name Acquire = false
closed_raises name Send = bytes_eq name (codes "ClosedResource")
closed_raises name Receive = bytes_eq name (codes "EndOfChannel")

-- a `raise` with a name, a `need` that raises it if it finds no line, or a step that uses a channel
abbrev pub raises : List ℕ → Step → Bool
raises name (raise other) = bytes_eq name other
raises name (need text other) = bytes_eq name other
raises name (ask_for other ask body) = closed_raises name ask
raises name _ = false

abbrev pub fails : Step → Bool
fails (scope name deadline shield fail body) = fail
fails _ = false

abbrev pub uses_channel : Ask → Bool
uses_channel Acquire = false
uses_channel Send = true
uses_channel Receive = true

-- a step that can raise an exception
abbrev pub can_fail : Step → Bool
can_fail (raise name) = true
can_fail (need text name) = true
can_fail (ask_for name ask body) = uses_channel ask
can_fail (scope name deadline shield fail body) = fail
can_fail _ = false

abbrev pub waits : Step → Bool
waits (sleep n) = true
waits checkpoint = true
waits forever = true
waits (pace k) = true
waits (wait_for name) = true
waits (ask_for name ask body) = true
waits _ = false

abbrev pub sets : List ℕ → Step → Bool
sets name (set_event other) = bytes_eq name other
sets name _ = false

abbrev pub awaits : List ℕ → Step → Bool
awaits name (wait_for other) = bytes_eq name other
awaits name _ = false

abbrev pub is_same : Ask → Ask → Bool
is_same Acquire Acquire = true
is_same Send Send = true
is_same Receive Receive = true
is_same _ _ = false

-- a step that asks a limiter or channel for something
abbrev pub asks : Ask → List ℕ → Step → Bool
asks ask name (ask_for other asked body) = is_same ask asked && bytes_eq name other
asks ask name _ = false

abbrev pub closes : List ℕ → Step → Bool
closes name (close_channel other) = bytes_eq name other
closes name _ = false

abbrev pub is_sought : Sought → Step → Bool
is_sought (Cancel name) s = cancels name s
is_sought (Raise name) s = raises name s
is_sought Fail s = fails s
is_sought Failure s = can_fail s
is_sought Wait s = waits s
is_sought (Set name) s = sets name s
is_sought (Await name) s = awaits name s
is_sought (Asking ask name) s = asks ask name s
is_sought (Close name) s = closes name s
-- what is found only inside some steps (see below)
is_sought (Looped name) s = false
is_sought (Nested outer inner) s = false
is_sought (Held outer inner) s = asks Acquire inner s
is_sought (Inverted name) s = false

abbrev pub is_never : Deadline → Bool
is_never Never = true
is_never (After n) = false
is_never (At n) = false

-- a wait is not sought inside a scope or nursery with a deadline, which bounds it; everything else is sought
-- everywhere
abbrev pub is_entered : Sought → Deadline → Bool
is_entered Wait deadline = is_never deadline
is_entered _ deadline = true

-- ---- what is sought inside a step

-- A `receive` in a loop is a `receive` at any depth in a `repeat`, also in a task that is started there.
abbrev pub in_loop : Sought → Sought
in_loop (Looped name) = Asking Receive name
in_loop sought = sought

-- An `acquire` in another one is in the block of that one, at any depth. A task does not hold the tokens of the task that started it.
abbrev pub held_if : Bool → (outer inner : List ℕ) → Sought
held_if true outer inner = Held outer inner
held_if false outer inner = Nested outer inner

abbrev pub with_grant : Ask → List ℕ → Sought → Sought
with_grant Acquire name (Nested outer inner) = held_if (bytes_eq name outer) outer inner
with_grant ask name sought = sought

abbrev pub in_task : Sought → Sought
in_task (Held outer inner) = Nested outer inner
in_task sought = sought

-- ---- at any depth

abbrev mutual
  pub has : Sought → Steps → Bool
  has sought stop = false
  has sought (step s ss) = (is_sought sought s || has_inside sought s) || has sought ss

  -- whether such a step is in the blocks of a step
  pub has_inside : Sought → Step → Bool
  has_inside sought (sleep n) = false
  has_inside sought checkpoint = false
  has_inside sought forever = false
  has_inside sought (pace k) = false
  has_inside sought (find text) = false
  has_inside sought (head n) = false
  has_inside sought longest = false
  has_inside sought (need text name) = false
  has_inside sought (raise name) = false
  has_inside sought (cancel name) = false
  has_inside sought (set_event name) = false
  has_inside sought (wait_for name) = false
  has_inside sought (ask_for name ask body) = has (with_grant ask name sought) body
  has_inside sought (close_channel name) = false
  has_inside sought (scope name deadline shield fail body) = is_entered sought deadline && has sought body
  has_inside sought (nursery name deadline shield body) = is_entered sought deadline && has sought body
  has_inside sought (event name body) = has sought body
  -- the tokens of this limiter and of the one that is sought are asked for in both orders
  has_inside (Inverted outer) (object name (Limiter n) body) =
      (has (Nested outer name) body && has (Nested name outer) body) || has (Inverted outer) body
  has_inside sought (object name kind body) = has sought body
  has_inside sought (start name over body) = has (in_task sought) body
  has_inside sought (repeat count over body) = has (in_loop sought) body
  has_inside sought (attempt body handler cleanup) = has sought body || (handled_has sought handler || cleaned_has sought cleanup)

  pub handled_has : Sought → Handled → Bool
  handled_has sought unhandled = false
  handled_has sought (except name body) = has sought body

  pub cleaned_has : Sought → Cleaned → Bool
  cleaned_has sought uncleaned = false
  cleaned_has sought (finally body) = has sought body
