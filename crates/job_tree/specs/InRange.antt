-- The ranges of the numbers of a job.
use Rattle.std.specs.Prelude.{ℕ, ◌≤◌, Bool, true, false, Option, Some, None}
use Rattle.job_tree.specs.declared.limits.TheConstants.{MAX_NUMBER, MAX_PACE, MAX_COPIES, MAX_PASSES, MAX_TOKENS, MAX_PLACES}
use Rattle.job_tree.specs.declared.deadline.Deadline.{Deadline}
use Rattle.job_tree.specs.declared.deadline.Deadline.TheVariants.{Never, After, At}
use Rattle.job_tree.specs.Tree.{Step, sleep, checkpoint, forever, pace, find, head, longest, need, raise, cancel, set_event, wait_for, ask_for, close_channel, scope, nursery, event, object, start, repeat, attempt, Steps, stop, step, Handled, unhandled, except, Cleaned, uncleaned, finally, Tree}
use Rattle.job_tree.specs.declared.object.ObjectKind.{ObjectKind}
use Rattle.job_tree.specs.declared.object.ObjectKind.TheVariants.{Limiter, Channel}
use Rattle.job_tree.specs.Names.{size_of}
use Rattle.job_tree.specs.Formats.{most_steps}

-- the number of a deadline is at most the maximum
abbrev pub IsInRangeDeadline : Deadline → Type 0
IsInRangeDeadline Never = Unit {0}
IsInRangeDeadline (After n) = n ≤ MAX_NUMBER
IsInRangeDeadline (At n) = n ≤ MAX_NUMBER

-- the number of copies that a `start .. over` makes is in its range: at least one
abbrev pub IsInRangeOver : Option ℕ → Type 0
IsInRangeOver None = Unit {0}
IsInRangeOver (Some k) = (1 ≤ k) × (k ≤ MAX_COPIES)

-- the number of passes of a `repeat` is in its range; that of a `repeat over` in the range of copies
abbrev pub IsInRangePasses : (over : Bool) → ℕ → Type 0
IsInRangePasses false n = n ≤ MAX_PASSES
IsInRangePasses true n = (1 ≤ n) × (n ≤ MAX_COPIES)

-- a limiter has at least one token; a channel may have no place
abbrev pub IsInRangeObject : ObjectKind → Type 0
IsInRangeObject (Limiter n) = (1 ≤ n) × (n ≤ MAX_TOKENS)
IsInRangeObject (Channel n) = n ≤ MAX_PLACES

-- all numbers of a block are in their ranges
abbrev mutual
  pub AreInRange : Steps → Type 0
  AreInRange stop = Unit {0}
  AreInRange (step s ss) = IsInRangeStep s × AreInRange ss

  pub IsInRangeStep : Step → Type 0
  IsInRangeStep (sleep n) = n ≤ MAX_NUMBER
  IsInRangeStep checkpoint = Unit {0}
  IsInRangeStep forever = Unit {0}
  IsInRangeStep (pace k) = (1 ≤ k) × (k ≤ MAX_PACE)
  IsInRangeStep (find text) = Unit {0}
  IsInRangeStep (head n) = n ≤ MAX_NUMBER
  IsInRangeStep longest = Unit {0}
  IsInRangeStep (need text name) = Unit {0}
  IsInRangeStep (raise name) = Unit {0}
  IsInRangeStep (cancel name) = Unit {0}
  IsInRangeStep (set_event name) = Unit {0}
  IsInRangeStep (wait_for name) = Unit {0}
  IsInRangeStep (ask_for name ask body) = AreInRange body
  IsInRangeStep (close_channel name) = Unit {0}
  IsInRangeStep (scope name deadline shield fail body) = IsInRangeDeadline deadline × AreInRange body
  IsInRangeStep (nursery name deadline shield body) = IsInRangeDeadline deadline × AreInRange body
  IsInRangeStep (event name body) = AreInRange body
  IsInRangeStep (object name kind body) = IsInRangeObject kind × AreInRange body
  IsInRangeStep (start name over body) = IsInRangeOver over × AreInRange body
  IsInRangeStep (repeat count over body) = IsInRangePasses over count × AreInRange body
  IsInRangeStep (attempt body handler cleanup) = AreInRange body × IsInRangeHandler handler × IsInRangeCleanup cleanup

  pub IsInRangeHandler : Handled → Type 0
  IsInRangeHandler unhandled = Unit {0}
  IsInRangeHandler (except name body) = AreInRange body

  pub IsInRangeCleanup : Cleaned → Type 0
  IsInRangeCleanup uncleaned = Unit {0}
  IsInRangeCleanup (finally body) = AreInRange body

-- a job whose numbers are in their ranges, with no more step instances than its format allows
pub record IsInRange (job : Tree) : Type 0 where
  pub numbers : AreInRange job.steps
  pub size : size_of job.steps ≤ most_steps job.format
