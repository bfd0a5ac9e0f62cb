-- A job as tokens, each with its role: one short case for each construct. Each construct is printed before the tokens
-- that follow it (`rest`).
use Rattle.std.specs.Prelude.{◌≡◌, ℕ, List, [], ◌∷◌, map, Bool, true, false, ◌&&◌, Option, Some, None}
use Rattle.job_tree.specs.declared.deadline.Deadline.{Deadline}
use Rattle.job_tree.specs.declared.deadline.Deadline.TheVariants.{Never, After, At}
use Rattle.job_tree.specs.declared.format.Format.{Format}
use Rattle.job_tree.specs.declared.format.Format.TheVariants.{One, Two, Three}
use Rattle.job_tree.specs.Formats.{extends_format_1, has_events}
use Rattle.job_tree.specs.declared.object.ObjectKind.{ObjectKind}
use Rattle.job_tree.specs.declared.object.ObjectKind.TheVariants.{Limiter, Channel}
use Rattle.job_tree.specs.declared.object.Ask.{Ask}
use Rattle.job_tree.specs.declared.object.Ask.TheVariants.{Acquire, Send, Receive}
use Rattle.job_tree.specs.Starting.{starts_in_pass}
use Rattle.job_tree.specs.Tree.{Step, sleep, checkpoint, forever, pace, find, head, longest, need, raise, cancel, set_event, wait_for, ask_for, close_channel, scope, nursery, event, object, start, repeat, attempt, Steps, stop, step, Handled, unhandled, except, Cleaned, uncleaned, finally, Tree}
use Rattle.job_tokens.specs.declared.token.Mark.{Mark}
use Rattle.job_tokens.specs.declared.token.Mark.TheVariants as mark
use Rattle.job_tokens.specs.declared.token.Shape.{Shape}
use Rattle.job_tokens.specs.declared.token.Shape.TheVariants as shape
use Rattle.job_syntax.specs.declared.keyword.Keyword.{Keyword}
use Rattle.job_syntax.specs.declared.keyword.Keyword.TheVariants as word
use Rattle.job_syntax.specs.Keywords.{spelling_of}
use Rattle.job_syntax.specs.declared.role.Role.{Role}
use Rattle.job_syntax.specs.declared.role.Role.TheVariants as role

-- a token and its role
pub record Piece : Type 0 where
  pub shape : Shape
  pub role : Role

-- the tokens alone
abbrev pub shapes_in : List Piece → List Shape
shapes_in ps = map (λ p. p.shape) ps

-- the roles alone
abbrev pub roles_in : List Piece → List Role
roles_in ps = map (λ p. p.role) ps

abbrev pub keyword : Keyword → Piece
keyword k = record { shape = shape.Word (spelling_of k); role = role.Plain }

abbrev pub name_piece : Role → List ℕ → Piece
name_piece purpose bytes = record { shape = shape.Word bytes; role = purpose }

abbrev pub number : ℕ → Piece
number n = record { shape = shape.Number (Some n); role = role.Plain }

abbrev pub string : List ℕ → Piece
string bytes = record { shape = shape.Text bytes; role = role.Plain }

abbrev pub mark_piece : Mark → Piece
mark_piece m = record { shape = shape.Mark m; role = role.Plain }

abbrev pub opens : Piece
opens = mark_piece mark.Open

abbrev pub closes : Piece
closes = mark_piece mark.Close

abbrev pub ends : Piece
ends = mark_piece mark.Semicolon

-- a deadline of a scope
abbrev pub deadline_pieces : Deadline → List Piece → List Piece
deadline_pieces Never rest = rest
deadline_pieces (After n) rest = keyword word.After ∷ number n ∷ rest
deadline_pieces (At n) rest = keyword word.At ∷ number n ∷ rest

-- an optional keyword
abbrev pub flag_pieces : Keyword → Bool → List Piece → List Piece
flag_pieces k false rest = rest
flag_pieces k true rest = keyword k ∷ rest

-- how many copies of a task are started
abbrev pub over_pieces : Option ℕ → List Piece → List Piece
over_pieces None rest = rest
over_pieces (Some n) rest = keyword word.Over ∷ number n ∷ rest

-- how many passes a `repeat` has, and whether each has its own cut of the task's part of the input
abbrev pub passes_pieces : (over : Bool) → ℕ → List Piece → List Piece
passes_pieces false n rest = number n ∷ rest
passes_pieces true n rest = keyword word.Over ∷ number n ∷ rest

-- the keyword of a limiter or channel, and how many tokens or places it has
abbrev pub object_word : ObjectKind → Keyword
object_word (Limiter n) = word.Limiter
object_word (Channel n) = word.Channel

abbrev pub count_of : ObjectKind → ℕ
count_of (Limiter n) = n
count_of (Channel n) = n

-- the keyword of a step that asks for something
abbrev pub ask_word : Ask → Keyword
ask_word Acquire = word.Acquire
ask_word Send = word.Send
ask_word Receive = word.Receive

-- what follows the name in such a step: a block, but a `send` ends there
abbrev pub block_or_end : {A : Type 0} → Ask → (block end : A) → A
block_or_end Acquire block end = block
block_or_end Send block end = end
block_or_end Receive block end = block

abbrev mutual
  -- the steps of a block and the mark that ends it
  pub steps_pieces : Steps → List Piece → List Piece
  steps_pieces stop rest = closes ∷ rest
  steps_pieces (step s ss) rest = step_pieces s (steps_pieces ss rest)

  -- one step
  pub step_pieces : Step → List Piece → List Piece
  step_pieces (sleep ticks) rest = keyword word.Sleep ∷ number ticks ∷ ends ∷ rest
  step_pieces checkpoint rest = keyword word.Checkpoint ∷ ends ∷ rest
  step_pieces forever rest = keyword word.Forever ∷ ends ∷ rest
  step_pieces (pace per_tick) rest = keyword word.Pace ∷ number per_tick ∷ ends ∷ rest
  step_pieces (find text) rest = keyword word.Find ∷ string text ∷ ends ∷ rest
  step_pieces (head count) rest = keyword word.Head ∷ number count ∷ ends ∷ rest
  step_pieces longest rest = keyword word.Longest ∷ ends ∷ rest
  step_pieces (need text name) rest = keyword word.Need ∷ string text ∷ name_piece role.Raised name ∷ ends ∷ rest
  step_pieces (raise name) rest = keyword word.Raise ∷ name_piece role.Raised name ∷ ends ∷ rest
  step_pieces (cancel name) rest = keyword word.Cancel ∷ name_piece role.Target name ∷ ends ∷ rest
  step_pieces (set_event name) rest = keyword word.Set ∷ name_piece role.Target name ∷ ends ∷ rest
  step_pieces (wait_for name) rest = keyword word.Wait ∷ name_piece role.Target name ∷ ends ∷ rest
  step_pieces (ask_for name ask body) rest =
      keyword (ask_word ask) ∷ name_piece role.Target name ∷ block_or_end ask (opens ∷ steps_pieces body rest) (ends ∷ rest)
  step_pieces (close_channel name) rest = keyword word.Close ∷ name_piece role.Target name ∷ ends ∷ rest
  step_pieces (scope name deadline shield fail body) rest =
      keyword word.Scope ∷ name_piece role.Given name ∷ deadline_pieces deadline
      (flag_pieces word.Shield shield (flag_pieces word.Fail fail (opens ∷ steps_pieces body rest)))
  step_pieces (nursery name deadline shield body) rest =
      keyword word.Nursery ∷ name_piece role.Given name ∷ deadline_pieces deadline
      (flag_pieces word.Shield shield (opens ∷ steps_pieces body rest))
  step_pieces (event name body) rest = keyword word.Event ∷ name_piece role.Given name ∷ opens ∷ steps_pieces body rest
  step_pieces (object name kind body) rest =
      keyword (object_word kind) ∷ name_piece role.Given name ∷ number (count_of kind) ∷ opens ∷ steps_pieces body rest
  step_pieces (start name over body) rest = keyword word.Start ∷ name_piece role.Given name ∷ over_pieces over (opens ∷ steps_pieces body rest)
  step_pieces (repeat count over body) rest = keyword word.Repeat ∷ passes_pieces over count (opens ∷ steps_pieces body rest)
  step_pieces (attempt body handler cleanup) rest =
      keyword word.Try ∷ opens ∷ steps_pieces body (handler_pieces handler (cleanup_pieces cleanup rest))

  pub handler_pieces : Handled → List Piece → List Piece
  handler_pieces unhandled rest = rest
  handler_pieces (except name body) rest = keyword word.Except ∷ name_piece role.Handled name ∷ opens ∷ steps_pieces body rest

  pub cleanup_pieces : Cleaned → List Piece → List Piece
  cleanup_pieces uncleaned rest = rest
  cleanup_pieces (finally body) rest = keyword word.Finally ∷ opens ∷ steps_pieces body rest

-- a job, with other tokens after it and alone
abbrev pub job_onto : Tree → List Piece → List Piece
job_onto job rest = keyword word.Job ∷ name_piece role.Given job.name ∷ opens ∷ steps_pieces job.steps rest

abbrev pub job_pieces : Tree → List Piece
job_pieces job = job_onto job []

-- a `try` has a handler or a cleanup
abbrev pub HasTail : Handled → Cleaned → Type 0
HasTail (except name body) cleanup = Unit {0}
HasTail unhandled (finally body) = Unit {0}
HasTail unhandled uncleaned = ⊥

-- what may follow the name of a nursery: nothing in format 1; no `at` in formats 2 and 3
abbrev pub IsNurseryDeadline : Deadline → Type 0
IsNurseryDeadline Never = Unit {0}
IsNurseryDeadline (After n) = Unit {0}
IsNurseryDeadline (At n) = ⊥

abbrev pub IsNurseryHead : Format → Deadline → Bool → Type 0
IsNurseryHead One deadline shield = (deadline ≡ Never) × (shield ≡ false)
IsNurseryHead Two deadline shield = IsNurseryDeadline deadline
IsNurseryHead Three deadline shield = IsNurseryDeadline deadline

-- whether a `start` may stand in the block of a `repeat`: in format 3, if one may stand where that `repeat` is
abbrev pub loop_inside : Format → Bool → Bool
loop_inside format inside = has_events format && inside

-- a `repeat over` is in format 3 only
abbrev pub MayDivide : Format → (over : Bool) → Type 0
MayDivide format false = Unit {0}
MayDivide format true = has_events format ≡ true

-- a `send` has no steps
abbrev pub MayHaveSteps : Ask → Steps → Type 0
MayHaveSteps Acquire body = Unit {0}
MayHaveSteps Send stop = Unit {0}
MayHaveSteps Send (step s ss) = ⊥
MayHaveSteps Receive body = Unit {0}

abbrev mutual
  -- the grammar of a block: a `start` only directly inside a nursery, and in format 3 in a `repeat` there, but in no `repeat over`;
  -- no `repeat` in format 1, and no `repeat over`, events, limiters or channels in formats 1 and 2
  pub AreSteps : Format → Bool → Steps → Type 0
  AreSteps format inside stop = Unit {0}
  AreSteps format inside (step s ss) = IsStep format inside s × AreSteps format inside ss

  pub IsStep : Format → Bool → Step → Type 0
  IsStep format inside (sleep ticks) = Unit {0}
  IsStep format inside checkpoint = Unit {0}
  IsStep format inside forever = Unit {0}
  IsStep format inside (pace per_tick) = Unit {0}
  IsStep format inside (find text) = Unit {0}
  IsStep format inside (head count) = Unit {0}
  IsStep format inside longest = Unit {0}
  IsStep format inside (need text name) = Unit {0}
  IsStep format inside (raise name) = Unit {0}
  IsStep format inside (cancel name) = Unit {0}
  IsStep format inside (set_event name) = has_events format ≡ true
  IsStep format inside (wait_for name) = has_events format ≡ true
  IsStep format inside (ask_for name ask body) = (has_events format ≡ true) × MayHaveSteps ask body × AreSteps format false body
  IsStep format inside (close_channel name) = has_events format ≡ true
  IsStep format inside (scope name deadline shield fail body) = AreSteps format false body
  IsStep format inside (nursery name deadline shield body) = IsNurseryHead format deadline shield × AreSteps format true body
  IsStep format inside (event name body) = (has_events format ≡ true) × AreSteps format false body
  IsStep format inside (object name kind body) = (has_events format ≡ true) × AreSteps format false body
  IsStep format inside (start name over body) = (inside ≡ true) × AreSteps format false body
  IsStep format inside (repeat count over body) = (extends_format_1 format ≡ true) × MayDivide format over
      × AreSteps format (starts_in_pass over (loop_inside format inside)) body
  IsStep format inside (attempt body handler cleanup) = HasTail handler cleanup × AreSteps format false body × IsHandler format handler
      × IsCleanup format cleanup

  pub IsHandler : Format → Handled → Type 0
  IsHandler format unhandled = Unit {0}
  IsHandler format (except name body) = AreSteps format false body

  pub IsCleanup : Format → Cleaned → Type 0
  IsCleanup format uncleaned = Unit {0}
  IsCleanup format (finally body) = AreSteps format false body
