-- How deep blocks are nested.
use Rattle.std.specs.Prelude.{ℕ, suc, ◌-◌, ◌<◌, List, [], ◌∷◌, nat_le, Option, Some, None, if◌then◌else◌}
use Rattle.job_tokens.specs.declared.token.Mark.{Mark}
use Rattle.job_tokens.specs.declared.token.Mark.TheVariants as mark
use Rattle.job_tokens.specs.declared.token.Token.{Token}
use Rattle.job_tokens.specs.Shapes.{mark_in}
use Rattle.job_tree.specs.declared.object.Ask.{Ask}
use Rattle.job_tree.specs.declared.object.Ask.TheVariants.{Acquire, Send, Receive}
use Rattle.job_tree.specs.Tree.{Step, sleep, checkpoint, forever, pace, find, head, longest, need, raise, cancel, set_event, wait_for, ask_for, close_channel, scope, nursery, event, object, start, repeat, attempt, Steps, stop, step, Handled, unhandled, except, Cleaned, uncleaned, finally}

-- what holds of the block of a step that asks for something; a `send` has no block
abbrev pub IfBlock : Ask → Type 0 → Type 0
IfBlock Acquire is = is
IfBlock Send is = Unit {0}
IfBlock Receive is = is

abbrev mutual
  -- blocks are nested at most `depth` deep inside a block
  pub AreWithin : ℕ → Steps → Type 0
  AreWithin depth stop = Unit {0}
  AreWithin depth (step s ss) = IsWithin depth s × AreWithin depth ss

  pub IsWithin : ℕ → Step → Type 0
  IsWithin depth (sleep ticks) = Unit {0}
  IsWithin depth checkpoint = Unit {0}
  IsWithin depth forever = Unit {0}
  IsWithin depth (pace per_tick) = Unit {0}
  IsWithin depth (find text) = Unit {0}
  IsWithin depth (head count) = Unit {0}
  IsWithin depth longest = Unit {0}
  IsWithin depth (need text name) = Unit {0}
  IsWithin depth (raise name) = Unit {0}
  IsWithin depth (cancel name) = Unit {0}
  IsWithin depth (set_event name) = Unit {0}
  IsWithin depth (wait_for name) = Unit {0}
  IsWithin depth (ask_for name ask body) = IfBlock ask ((0 < depth) × AreWithin (depth - 1) body)
  IsWithin depth (close_channel name) = Unit {0}
  IsWithin depth (scope name deadline shield fail body) = (0 < depth) × AreWithin (depth - 1) body
  IsWithin depth (nursery name deadline shield body) = (0 < depth) × AreWithin (depth - 1) body
  IsWithin depth (event name body) = (0 < depth) × AreWithin (depth - 1) body
  IsWithin depth (object name kind body) = (0 < depth) × AreWithin (depth - 1) body
  IsWithin depth (start name over body) = (0 < depth) × AreWithin (depth - 1) body
  IsWithin depth (repeat count over body) = (0 < depth) × AreWithin (depth - 1) body
  IsWithin depth (attempt body handler cleanup) = ((0 < depth) × AreWithin (depth - 1) body) × IsHandlerWithin depth handler
      × IsCleanupWithin depth cleanup

  pub IsHandlerWithin : ℕ → Handled → Type 0
  IsHandlerWithin depth unhandled = Unit {0}
  IsHandlerWithin depth (except name body) = (0 < depth) × AreWithin (depth - 1) body

  pub IsCleanupWithin : ℕ → Cleaned → Type 0
  IsCleanupWithin depth uncleaned = Unit {0}
  IsCleanupWithin depth (finally body) = (0 < depth) × AreWithin (depth - 1) body

-- the maximum depth of nested blocks, including the job's own block
abbrev pub max_depth : ℕ
max_depth = 32

-- how many blocks are open after a token, if `depth` are open before it
abbrev pub depth_after : ℕ → Option Mark → ℕ
depth_after depth None = depth
depth_after depth (Some mark.Open) = suc depth
depth_after depth (Some mark.Close) = depth - 1
depth_after depth (Some mark.Semicolon) = depth

-- the first `{` after which more blocks are open than the maximum, if `depth` are already open
abbrev pub depth_fault : ℕ → List Token → Option ℕ
depth_fault depth [] = None
depth_fault depth (t ∷ ts) = if nat_le (depth_after depth (mark_in t.shape)) max_depth then depth_fault
    (depth_after depth (mark_in t.shape)) ts else Some t.at
