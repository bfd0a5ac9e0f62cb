-- How many steps a turn takes at most, by the frames that are left.
use Rattle.std.specs.Prelude.{ℕ, ◌+◌, ◌*◌, List, [], ◌∷◌}
use Rattle.job_tree.specs.Tree.{Step, checkpoint, forever, longest, ask_for, scope, nursery, event, object, repeat, attempt, Steps, stop, step, Handled, unhandled, except, Cleaned, uncleaned, finally}
use Rattle.job_meaning.specs.Rest.{Frame, steps_left, in_event, in_repeat, in_try, in_handler}

-- the maximum number of steps of a turn for the steps of a block, and for its end; children take
-- their own turns
abbrev mutual
  pub turn_length : Steps → ℕ
  turn_length stop = 1
  turn_length (step s ss) = step_length s + turn_length ss

  pub step_length : Step → ℕ
  step_length checkpoint = 1
  step_length forever = 1
  step_length longest = 1
  step_length (scope name deadline shield fail body) = 2 + turn_length body
  step_length (nursery name deadline shield body) = 2 + turn_length body
  step_length (event name body) = 2 + turn_length body
  step_length (object name kind body) = 2 + turn_length body
  step_length (ask_for name ask body) = 2 + turn_length body
  step_length (repeat count over body) = 1 + count * (1 + turn_length body)
  step_length (attempt body handler cleanup) = 2 + turn_length body + (handler_length handler + cleanup_length cleanup)
  step_length _ = 1

  pub handler_length : Handled → ℕ
  handler_length unhandled = 0
  handler_length (except name body) = 2 + turn_length body

  pub cleanup_length : Cleaned → ℕ
  cleanup_length uncleaned = 0
  cleanup_length (finally body) = 1 + turn_length body

abbrev pub frame_length : Frame → ℕ
frame_length (steps_left ss) = turn_length ss
frame_length in_event = 1
frame_length (in_repeat pass left cuts body) = 1 + left * (1 + turn_length body)
frame_length (in_try handler cleanup) = 1 + handler_length handler + cleanup_length cleanup
frame_length (in_handler rest cleanup) = 2 + cleanup_length cleanup
frame_length _ = 1

-- steps until a task with these frames has none left
abbrev pub frames_length : List Frame → ℕ
frames_length [] = 0
frames_length (f ∷ fs) = frame_length f + frames_length fs
