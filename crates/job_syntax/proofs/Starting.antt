-- What the grammar says about where a `start` may occur.
use Rattle.job_tree.specs.declared.format.Format.{Format}
use Rattle.job_tree.specs.declared.format.Format.TheVariants.{One, Two, Three}
use Rattle.job_tree.specs.Tree.{Step, sleep, checkpoint, forever, pace, find, head, longest, need, raise, cancel, set_event, wait_for, ask_for, close_channel, scope, nursery, event, object, start, repeat, attempt, Steps, stop, step, Handled, unhandled, except, Cleaned, uncleaned, finally}
use Rattle.job_tree.specs.Starting.{starts_in_pass, StartsIn, StartsAt, HandlerStarts, CleanupStarts}
use Rattle.std.specs.Prelude.{◌≡◌, Bool, true, false}
use Rattle.job_syntax.specs.Pieces.{loop_inside, AreSteps, IsStep, IsHandler, IsCleanup}

mutual
  -- a block without a `start` of its own may stand anywhere
  starts_anywhere : (inside : Bool) (ss : Steps) → StartsIn false ss → StartsIn inside ss
  starts_anywhere inside stop a = tt
  starts_anywhere inside (step s ss) a = (starts_anywhere_at inside s a.0, starts_anywhere inside ss a.1)

  starts_anywhere_at : (inside : Bool) (s : Step) → StartsAt false s → StartsAt inside s
  starts_anywhere_at inside (sleep n) a = tt
  starts_anywhere_at inside checkpoint a = tt
  starts_anywhere_at inside forever a = tt
  starts_anywhere_at inside (pace k) a = tt
  starts_anywhere_at inside (find text) a = tt
  starts_anywhere_at inside (head n) a = tt
  starts_anywhere_at inside longest a = tt
  starts_anywhere_at inside (need text name) a = tt
  starts_anywhere_at inside (raise name) a = tt
  starts_anywhere_at inside (cancel name) a = tt
  starts_anywhere_at inside (set_event name) a = tt
  starts_anywhere_at inside (wait_for name) a = tt
  starts_anywhere_at inside (ask_for name ask body) a = a
  starts_anywhere_at inside (close_channel name) a = tt
  starts_anywhere_at inside (scope name d shield fail body) a = a
  starts_anywhere_at inside (nursery name d shield body) a = a
  starts_anywhere_at inside (event name body) a = a
  starts_anywhere_at inside (object name kind body) a = a
  starts_anywhere_at inside (start name over body) a = let e : false ≡ true = a.0 in absurd cc
  starts_anywhere_at inside (repeat count false body) a = starts_anywhere inside body a
  starts_anywhere_at inside (repeat count true body) a = a
  starts_anywhere_at inside (attempt body handler cleanup) a = a

-- the block of a `repeat`
starts_in_loop : (format : Format) (inside over : Bool) (ss : Steps) → StartsIn (starts_in_pass over (loop_inside format inside)) ss →
    StartsIn (starts_in_pass over inside) ss
starts_in_loop format inside true ss a = a
starts_in_loop One inside false ss a = starts_anywhere inside ss a
starts_in_loop Two inside false ss a = starts_anywhere inside ss a
starts_in_loop Three inside false ss a = a

mutual
  -- in the blocks of the grammar, each `start` is directly in the body of a nursery, or in a `repeat` there
  pub starts_in : (format : Format) (inside : Bool) (ss : Steps) → AreSteps format inside ss → StartsIn inside ss
  starts_in format inside stop a = tt
  starts_in format inside (step s ss) a = (starts_at format inside s a.0, starts_in format inside ss a.1)

  -- the same for one step
  pub starts_at : (format : Format) (inside : Bool) (s : Step) → IsStep format inside s → StartsAt inside s
  starts_at format inside (sleep n) a = tt
  starts_at format inside checkpoint a = tt
  starts_at format inside forever a = tt
  starts_at format inside (pace k) a = tt
  starts_at format inside (find text) a = tt
  starts_at format inside (head n) a = tt
  starts_at format inside longest a = tt
  starts_at format inside (need text name) a = tt
  starts_at format inside (raise name) a = tt
  starts_at format inside (cancel name) a = tt
  starts_at format inside (set_event name) a = tt
  starts_at format inside (wait_for name) a = tt
  starts_at format inside (ask_for name ask body) a = starts_in format false body a.2
  starts_at format inside (close_channel name) a = tt
  starts_at format inside (scope name d shield fail body) a = starts_in format false body a
  starts_at format inside (nursery name d shield body) a = starts_in format true body a.1
  starts_at format inside (event name body) a = starts_in format false body a.1
  starts_at format inside (object name kind body) a = starts_in format false body a.1
  starts_at format inside (start name over body) a = (a.0, starts_in format false body a.1)
  starts_at format inside (repeat count over body) a =
      starts_in_loop format inside over body (starts_in format (starts_in_pass over (loop_inside format inside)) body a.2)
  starts_at format inside (attempt body handler cleanup) a = (
    starts_in format false body a.1,
    handler_starts format handler a.2,
    cleanup_starts format cleanup a.3,
  )

  -- the same for a handler
  pub handler_starts : (format : Format) (x : Handled) → IsHandler format x → HandlerStarts x
  handler_starts format unhandled a = tt
  handler_starts format (except name body) a = starts_in format false body a

  -- the same for a cleanup
  pub cleanup_starts : (format : Format) (x : Cleaned) → IsCleanup format x → CleanupStarts x
  cleanup_starts format uncleaned a = tt
  cleanup_starts format (finally body) a = starts_in format false body a
