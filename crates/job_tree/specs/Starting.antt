-- Where a `start` may occur: directly in the body of a nursery, or in a `repeat` there.
use Rattle.std.specs.Prelude.{Bool, true, false, IsTrue}
use Rattle.job_tree.specs.Tree.{Step, sleep, checkpoint, forever, pace, find, head, longest, need, raise, cancel, set_event, wait_for, ask_for, close_channel, scope, nursery, event, object, start, repeat, attempt, Steps, stop, step, Handled, unhandled, except, Cleaned, uncleaned, finally, Tree}

-- whether a `start` may be in a pass of a `repeat` that is in such a body, or in another block: not where each pass has its own part
abbrev pub starts_in_pass : (over body : Bool) → Bool
starts_in_pass false body = body
starts_in_pass true body = false

-- each `start` of a block is directly in the body of a nursery, or in a `repeat` that is there, or in such a `repeat`;
-- `nursery_body` says whether the block itself is such a body, or such a `repeat`
abbrev mutual
  pub StartsIn : (nursery_body : Bool) → Steps → Type 0
  StartsIn body stop = Unit {0}
  StartsIn body (step s ss) = StartsAt body s × StartsIn body ss

  pub StartsAt : Bool → Step → Type 0
  StartsAt body (sleep n) = Unit {0}
  StartsAt body checkpoint = Unit {0}
  StartsAt body forever = Unit {0}
  StartsAt body (pace k) = Unit {0}
  StartsAt body (find text) = Unit {0}
  StartsAt body (head n) = Unit {0}
  StartsAt body longest = Unit {0}
  StartsAt body (need text name) = Unit {0}
  StartsAt body (raise name) = Unit {0}
  StartsAt body (cancel name) = Unit {0}
  StartsAt body (set_event name) = Unit {0}
  StartsAt body (wait_for name) = Unit {0}
  StartsAt body (ask_for name ask ss) = StartsIn false ss
  StartsAt body (close_channel name) = Unit {0}
  StartsAt body (scope name deadline shield fail ss) = StartsIn false ss
  StartsAt body (nursery name deadline shield ss) = StartsIn true ss
  StartsAt body (event name ss) = StartsIn false ss
  StartsAt body (object name kind ss) = StartsIn false ss
  StartsAt body (start name over ss) = IsTrue body × StartsIn false ss
  StartsAt body (repeat count over ss) = StartsIn (starts_in_pass over body) ss
  StartsAt body (attempt ss handler cleanup) = StartsIn false ss × HandlerStarts handler × CleanupStarts cleanup

  pub HandlerStarts : Handled → Type 0
  HandlerStarts unhandled = Unit {0}
  HandlerStarts (except name ss) = StartsIn false ss

  pub CleanupStarts : Cleaned → Type 0
  CleanupStarts uncleaned = Unit {0}
  CleanupStarts (finally ss) = StartsIn false ss

-- the block of a job is not the body of a nursery
abbrev pub StartsInNurseries : Tree → Type 0
StartsInNurseries job = StartsIn false job.steps
