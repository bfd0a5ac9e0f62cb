-- The weight of a block: it is more than the weight of each block inside it.
use Rattle.std.specs.Prelude.{ℕ, ◌+◌}
use Rattle.job_tree.specs.Tree.{Step, sleep, checkpoint, forever, pace, find, head, longest, need, raise, cancel, set_event, wait_for, ask_for, close_channel, scope, nursery, event, object, start, repeat, attempt, Steps, stop, step, Handled, unhandled, except, Cleaned, uncleaned, finally}

abbrev mutual
  pub weight_of : Steps → ℕ
  weight_of stop = 1
  weight_of (step s ss) = weight_in s + weight_of ss

  pub weight_in : Step → ℕ
  weight_in (scope name deadline shield fail body) = 8 + weight_of body
  weight_in (nursery name deadline shield body) = 8 + weight_of body
  weight_in (event name body) = 8 + weight_of body
  weight_in (object name kind body) = 8 + weight_of body
  weight_in (ask_for name ask body) = 8 + weight_of body
  weight_in (start name over body) = 8 + weight_of body
  weight_in (repeat count over body) = 8 + weight_of body
  weight_in (attempt body handler cleanup) = 8 + weight_of body + handled_weight handler + cleaned_weight cleanup
  weight_in (sleep n) = 8
  weight_in checkpoint = 8
  weight_in forever = 8
  weight_in (pace k) = 8
  weight_in (find text) = 8
  weight_in (head n) = 8
  weight_in longest = 8
  weight_in (need text name) = 8
  weight_in (raise name) = 8
  weight_in (cancel name) = 8
  weight_in (set_event name) = 8
  weight_in (wait_for name) = 8
  weight_in (close_channel name) = 8

  pub handled_weight : Handled → ℕ
  handled_weight unhandled = 0
  handled_weight (except name body) = 8 + weight_of body

  pub cleaned_weight : Cleaned → ℕ
  cleaned_weight uncleaned = 0
  cleaned_weight (finally body) = 8 + weight_of body
