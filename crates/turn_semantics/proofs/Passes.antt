-- Bodies of nurseries that a pass is in, and blocks that may stand in any body.
use Rattle.std.proofs.Common.{ℕ, Bool, true, false, Option, Some, None, IsTrue}
use Rattle.std.specs.Prelude.{is_some}
use Rattle.job_tree.specs.Tree.{Step, sleep, checkpoint, forever, pace, find, head, longest, need, raise, cancel, set_event, wait_for, ask_for, close_channel, scope, nursery, event, object, start, repeat, attempt, Steps, stop, step}
use Rattle.job_tree.specs.Starting.{starts_in_pass, StartsIn, StartsAt}

pub loop_body : (cuts : Option ℕ) (body : Bool) → IsTrue (starts_in_pass (is_some cuts) body) → IsTrue body
loop_body None body h = h
loop_body (Some k) body h = absurd (cc)

mutual
  -- a block that starts no child outside its own nurseries may stand in a nursery's body too
  pub starts_anywhere : (ss : Steps) (body : Bool) → StartsIn false ss → StartsIn body ss
  starts_anywhere stop body h = tt
  starts_anywhere (step s ss) body h = (step_anywhere s body h.0, starts_anywhere ss body h.1)

  -- and so may such a step
  step_anywhere : (s : Step) (body : Bool) → StartsAt false s → StartsAt body s
  step_anywhere (sleep n) body h = tt
  step_anywhere checkpoint body h = tt
  step_anywhere forever body h = tt
  step_anywhere (pace k) body h = tt
  step_anywhere (find text) body h = tt
  step_anywhere (head n) body h = tt
  step_anywhere longest body h = tt
  step_anywhere (need text name) body h = tt
  step_anywhere (raise name) body h = tt
  step_anywhere (cancel name) body h = tt
  step_anywhere (set_event name) body h = tt
  step_anywhere (wait_for name) body h = tt
  step_anywhere (ask_for name ask ss) body h = h
  step_anywhere (close_channel name) body h = tt
  step_anywhere (scope name deadline shield fail ss) body h = h
  step_anywhere (nursery name deadline shield ss) body h = h
  step_anywhere (event name ss) body h = h
  step_anywhere (object name kind ss) body h = h
  step_anywhere (start name over ss) body h = absurd (let e = h.0 in cc)
  step_anywhere (repeat count false ss) body h = starts_anywhere ss body h
  step_anywhere (repeat count true ss) body h = h
  step_anywhere (attempt ss handler cleanup) body h = h
