-- Blocks are read back from their tokens.
use Rattle.std.proofs.Common.{◌≡◌, ℕ, zero, suc, ◌+◌, ◌-◌, ◌<◌, ◌≤◌, Bool, true, false, List, [], ◌∷◌, length, Option, Some, None, refl, subst, arith}
use Rattle.job_tree.specs.declared.format.Format.{Format}
use Rattle.job_tree.specs.declared.deadline.Deadline.{Deadline}
use Rattle.job_tree.specs.declared.deadline.Deadline.TheVariants.{Never, After, At}
use Rattle.job_tree.specs.Starting.{starts_in_pass}
use Rattle.job_tree.specs.declared.object.ObjectKind.{ObjectKind}
use Rattle.job_tree.specs.declared.object.ObjectKind.TheVariants.{Limiter, Channel}
use Rattle.job_tree.specs.declared.object.Ask.TheVariants.{Acquire, Send, Receive}
use Rattle.job_tree.specs.Tree.{Step, sleep, checkpoint, forever, pace, find, head, longest, need, raise, cancel, set_event, wait_for, ask_for, close_channel, scope, nursery, event, object, start, repeat, attempt, Steps, stop, step, Handled, unhandled, except, Cleaned, uncleaned, finally, Tree}
use Rattle.job_tokens.specs.declared.token.Mark.TheVariants as mark
use Rattle.job_tokens.specs.declared.token.Shape.{Shape}
use Rattle.job_syntax.specs.declared.keyword.Keyword.{Keyword}
use Rattle.job_syntax.specs.declared.keyword.Keyword.TheVariants as word
use Rattle.job_syntax.specs.Keywords.{keyword_of}
use Rattle.job_syntax.specs.Pieces.{Piece, shapes_in, opens, deadline_pieces, flag_pieces, over_pieces, passes_pieces, steps_pieces, step_pieces, handler_pieces, cleanup_pieces, job_pieces, loop_inside, AreSteps, IsStep}
use Rattle.job_syntax.specs.Depth.{AreWithin, IsWithin}
use Rattle.job_syntax.specs.Reading.{Read, Blocks, mark_at, after_word, step_at, steps_with, blocks_at, job_at}

length_shapes : (ps : List Piece) → length (shapes_in ps) ≡ length ps
length_shapes [] = refl
length_shapes (p ∷ ps) = omega (arith, length_shapes ps)

-- ---- each construct has tokens

long_flag : (k : Keyword) (b : Bool) (rest : List Piece) → length rest ≤ length (flag_pieces k b rest)
long_flag k false rest = omega arith
long_flag k true rest = omega arith

long_deadline : (d : Deadline) (rest : List Piece) → length rest ≤ length (deadline_pieces d rest)
long_deadline Never rest = omega arith
long_deadline (After n) rest = omega arith
long_deadline (At n) rest = omega arith

long_over : (o : Option ℕ) (rest : List Piece) → length rest ≤ length (over_pieces o rest)
long_over None rest = omega arith
long_over (Some n) rest = omega arith

long_passes : (over : Bool) (n : ℕ) (rest : List Piece) → length rest ≤ length (passes_pieces over n rest)
long_passes false n rest = omega arith
long_passes true n rest = omega arith

mutual
  long_steps : (steps : Steps) (rest : List Piece) → 1 + length rest ≤ length (steps_pieces steps rest)
  long_steps stop rest = omega arith
  long_steps (step s ss) rest = omega (arith, long_step s (steps_pieces ss rest), long_steps ss rest)

  long_step : (s : Step) (rest : List Piece) → 1 + length rest ≤ length (step_pieces s rest)
  long_step (sleep n) rest = omega arith
  long_step checkpoint rest = omega arith
  long_step forever rest = omega arith
  long_step (pace n) rest = omega arith
  long_step (find t) rest = omega arith
  long_step (head n) rest = omega arith
  long_step longest rest = omega arith
  long_step (need t n) rest = omega arith
  long_step (raise n) rest = omega arith
  long_step (cancel n) rest = omega arith
  long_step (set_event n) rest = omega arith
  long_step (wait_for n) rest = omega arith
  long_step (ask_for n Acquire body) rest = omega (arith, long_steps body rest)
  long_step (ask_for n Send body) rest = omega arith
  long_step (ask_for n Receive body) rest = omega (arith, long_steps body rest)
  long_step (close_channel n) rest = omega arith
  long_step (scope n d s f body) rest = omega (
    arith,
    long_steps body rest,
    long_deadline d (flag_pieces word.Shield s (flag_pieces word.Fail f (opens ∷ steps_pieces body rest))),
    long_flag word.Shield s (flag_pieces word.Fail f (opens ∷ steps_pieces body rest)),
    long_flag word.Fail f (opens ∷ steps_pieces body rest),
  )
  long_step (nursery n d s body) rest = omega (
    arith,
    long_steps body rest,
    long_deadline d (flag_pieces word.Shield s (opens ∷ steps_pieces body rest)),
    long_flag word.Shield s (opens ∷ steps_pieces body rest),
  )
  long_step (event n body) rest = omega (arith, long_steps body rest)
  long_step (object n kind body) rest = omega (arith, long_steps body rest)
  long_step (start n o body) rest = omega (arith, long_steps body rest, long_over o (opens ∷ steps_pieces body rest))
  long_step (repeat n over body) rest = omega (arith, long_steps body rest, long_passes over n (opens ∷ steps_pieces body rest))
  long_step (attempt body h c) rest =
      omega (arith, long_steps body (handler_pieces h (cleanup_pieces c rest)), long_handler h (cleanup_pieces c rest), long_cleanup c rest)

  long_handler : (h : Handled) (rest : List Piece) → length rest ≤ length (handler_pieces h rest)
  long_handler unhandled rest = omega arith
  long_handler (except n body) rest = omega (arith, long_steps body rest)

  long_cleanup : (c : Cleaned) (rest : List Piece) → length rest ≤ length (cleanup_pieces c rest)
  long_cleanup uncleaned rest = omega arith
  long_cleanup (finally body) rest = omega (arith, long_steps body rest)

-- ---- a step, whose blocks are read back

-- a block is read back, whatever follows it
abbrev ReadsAgain : Blocks → Steps → Type 0
ReadsAgain blocks body = (rest : List Piece) → blocks (shapes_in (steps_pieces body rest)) ≡ Some (body, shapes_in rest)

abbrev step_read : Step → List Piece → Read Step
step_read s rest = Some (s, shapes_in rest)

scope_again : (blocks : Blocks) (n : List ℕ) (d : Deadline) (s f : Bool) (body : Steps) (rest : List Piece) → ReadsAgain blocks body →
    step_at blocks (shapes_in (step_pieces (scope n d s f body) rest)) ≡ step_read (scope n d s f body) rest
unfolding keyword_of
scope_again blocks n Never false false body rest reads = rw (reads rest) refl
scope_again blocks n Never false true body rest reads = rw (reads rest) refl
scope_again blocks n Never true false body rest reads = rw (reads rest) refl
scope_again blocks n Never true true body rest reads = rw (reads rest) refl
scope_again blocks n (After t) false false body rest reads = rw (reads rest) refl
scope_again blocks n (After t) false true body rest reads = rw (reads rest) refl
scope_again blocks n (After t) true false body rest reads = rw (reads rest) refl
scope_again blocks n (After t) true true body rest reads = rw (reads rest) refl
scope_again blocks n (At t) false false body rest reads = rw (reads rest) refl
scope_again blocks n (At t) false true body rest reads = rw (reads rest) refl
scope_again blocks n (At t) true false body rest reads = rw (reads rest) refl
scope_again blocks n (At t) true true body rest reads = rw (reads rest) refl

start_again : (blocks : Blocks) (n : List ℕ) (o : Option ℕ) (body : Steps) (rest : List Piece) → ReadsAgain blocks body →
    step_at blocks (shapes_in (step_pieces (start n o body) rest)) ≡ step_read (start n o body) rest
unfolding keyword_of
start_again blocks n None body rest reads = rw (reads rest) refl
start_again blocks n (Some k) body rest reads = rw (reads rest) refl

nursery_again : (blocks : Blocks) (n : List ℕ) (d : Deadline) (s : Bool) (body : Steps) (rest : List Piece) → ReadsAgain blocks body →
    step_at blocks (shapes_in (step_pieces (nursery n d s body) rest)) ≡ step_read (nursery n d s body) rest
unfolding keyword_of
nursery_again blocks n Never false body rest reads = rw (reads rest) refl
nursery_again blocks n Never true body rest reads = rw (reads rest) refl
nursery_again blocks n (After t) false body rest reads = rw (reads rest) refl
nursery_again blocks n (After t) true body rest reads = rw (reads rest) refl
nursery_again blocks n (At t) false body rest reads = rw (reads rest) refl
nursery_again blocks n (At t) true body rest reads = rw (reads rest) refl

event_again : (blocks : Blocks) (n : List ℕ) (body : Steps) (rest : List Piece) → ReadsAgain blocks body →
    step_at blocks (shapes_in (step_pieces (event n body) rest)) ≡ step_read (event n body) rest
unfolding keyword_of
event_again blocks n body rest reads = rw (reads rest) refl

object_again : (blocks : Blocks) (n : List ℕ) (kind : ObjectKind) (body : Steps) (rest : List Piece) → ReadsAgain blocks body →
    step_at blocks (shapes_in (step_pieces (object n kind body) rest)) ≡ step_read (object n kind body) rest
unfolding keyword_of
object_again blocks n (Limiter count) body rest reads = rw (reads rest) refl
object_again blocks n (Channel count) body rest reads = rw (reads rest) refl

acquire_again : (blocks : Blocks) (n : List ℕ) (body : Steps) (rest : List Piece) → ReadsAgain blocks body →
    step_at blocks (shapes_in (step_pieces (ask_for n Acquire body) rest)) ≡ step_read (ask_for n Acquire body) rest
unfolding keyword_of
acquire_again blocks n body rest reads = rw (reads rest) refl

receive_again : (blocks : Blocks) (n : List ℕ) (body : Steps) (rest : List Piece) → ReadsAgain blocks body →
    step_at blocks (shapes_in (step_pieces (ask_for n Receive body) rest)) ≡ step_read (ask_for n Receive body) rest
unfolding keyword_of
receive_again blocks n body rest reads = rw (reads rest) refl

repeat_again : (blocks : Blocks) (n : ℕ) (over : Bool) (body : Steps) (rest : List Piece) → ReadsAgain blocks body →
    step_at blocks (shapes_in (step_pieces (repeat n over body) rest)) ≡ step_read (repeat n over body) rest
unfolding keyword_of
repeat_again blocks n false body rest reads = rw (reads rest) refl
repeat_again blocks n true body rest reads = rw (reads rest) refl

try_both : (blocks : Blocks) (body : Steps) (n : List ℕ) (handler clean : Steps) (rest : List Piece) → ReadsAgain blocks body →
    ReadsAgain blocks handler → ReadsAgain blocks clean → step_at blocks
    (shapes_in (step_pieces (attempt body (except n handler) (finally clean)) rest))
    ≡ step_read (attempt body (except n handler) (finally clean)) rest
unfolding keyword_of
try_both blocks body n handler clean rest b h c =
    rw (b (handler_pieces (except n handler) (cleanup_pieces (finally clean) rest)), h (cleanup_pieces (finally clean) rest), c rest) refl

try_handler : (blocks : Blocks) (body : Steps) (n : List ℕ) (handler : Steps) (rest : List Piece) → ReadsAgain blocks body →
    ReadsAgain blocks handler → after_word word.Finally (shapes_in rest) ≡ None →
    step_at blocks (shapes_in (step_pieces (attempt body (except n handler) uncleaned) rest))
    ≡ step_read (attempt body (except n handler) uncleaned) rest
unfolding keyword_of
try_handler blocks body n handler rest b h none = rw (b (handler_pieces (except n handler) rest), h rest, none) refl

try_cleanup : (blocks : Blocks) (body clean : Steps) (rest : List Piece) → ReadsAgain blocks body → ReadsAgain blocks clean →
    step_at blocks (shapes_in (step_pieces (attempt body unhandled (finally clean)) rest))
    ≡ step_read (attempt body unhandled (finally clean)) rest
unfolding keyword_of
try_cleanup blocks body clean rest b c = rw (b (cleanup_pieces (finally clean) rest), c rest) refl

-- a block does not begin with `finally`
no_finally : (steps : Steps) (rest : List Piece) → after_word word.Finally (shapes_in (steps_pieces steps rest)) ≡ None
no_finally stop rest = refl
no_finally (step (sleep n) ss) rest = refl
no_finally (step checkpoint ss) rest = refl
no_finally (step forever ss) rest = refl
no_finally (step (pace n) ss) rest = refl
no_finally (step (find t) ss) rest = refl
no_finally (step (head n) ss) rest = refl
no_finally (step longest ss) rest = refl
no_finally (step (need t n) ss) rest = refl
no_finally (step (raise n) ss) rest = refl
no_finally (step (cancel n) ss) rest = refl
no_finally (step (set_event n) ss) rest = refl
no_finally (step (wait_for n) ss) rest = refl
no_finally (step (ask_for n Acquire body) ss) rest = refl
no_finally (step (ask_for n Send body) ss) rest = refl
no_finally (step (ask_for n Receive body) ss) rest = refl
no_finally (step (close_channel n) ss) rest = refl
no_finally (step (scope n d s f body) ss) rest = refl
no_finally (step (nursery n d s body) ss) rest = refl
no_finally (step (event n body) ss) rest = refl
no_finally (step (object n (Limiter count) body) ss) rest = refl
no_finally (step (object n (Channel count) body) ss) rest = refl
no_finally (step (start n o body) ss) rest = refl
no_finally (step (repeat n over body) ss) rest = refl
no_finally (step (attempt body h c) ss) rest = refl

-- a step does not begin with a closing mark
no_close : (s : Step) (rest : List Piece) → mark_at mark.Close (shapes_in (step_pieces s rest)) ≡ None
no_close (sleep n) rest = refl
no_close checkpoint rest = refl
no_close forever rest = refl
no_close (pace n) rest = refl
no_close (find t) rest = refl
no_close (head n) rest = refl
no_close longest rest = refl
no_close (need t n) rest = refl
no_close (raise n) rest = refl
no_close (cancel n) rest = refl
no_close (set_event n) rest = refl
no_close (wait_for n) rest = refl
no_close (ask_for n ask body) rest = refl
no_close (close_channel n) rest = refl
no_close (scope n d s f body) rest = refl
no_close (nursery n d s body) rest = refl
no_close (event n body) rest = refl
no_close (object n kind body) rest = refl
no_close (start n o body) rest = refl
no_close (repeat n over body) rest = refl
no_close (attempt body h c) rest = refl

-- ---- nested blocks

-- steps are read back if `depth` levels of blocks and `n` tokens are enough for them
abbrev StepsAgain : (format : Format) → Steps → Type 0
StepsAgain format steps =
    (inside : Bool) (depth n : ℕ) (rest : List Piece) → AreSteps format inside steps → AreWithin depth steps →
    length (steps_pieces steps rest) ≤ n + length rest
    → steps_with (blocks_at depth) n (shapes_in (steps_pieces steps rest)) ≡ Some (steps, shapes_in rest)

block_again : (format : Format) (inside : Bool) (body : Steps) (depth : ℕ) → StepsAgain format body → AreSteps format inside body →
    0 < depth → AreWithin (depth - 1) body →
    ReadsAgain (blocks_at depth) body
unfolding blocks_at
block_again format inside body zero again are some within rest = absurd (omega arith)
block_again format inside body (suc depth) again are some within rest =
    let e : suc depth - 1 ≡ depth = omega arith in
    again inside depth (length (shapes_in (steps_pieces body rest))) rest are (subst (λ (d : ℕ). AreWithin d body) e within)
    (omega (arith, length_shapes (steps_pieces body rest)))

one_step : (blocks : Blocks) (n : ℕ) (s : Step) (ss : Steps) (shapes after rest : List Shape) → mark_at mark.Close shapes ≡ None →
    step_at blocks shapes ≡ Some (s, after) → steps_with blocks n after ≡ Some (ss, rest) →
    steps_with blocks (suc n) shapes ≡ Some (step s ss, rest)
unfolding steps_with
one_step blocks n s ss shapes after rest going found others = rw (going, found, others) refl

mutual
  unfolding steps_with keyword_of

  -- a block of the grammar that is not too deep is read back from its tokens, up to the mark that closes it
  pub steps_again : (format : Format) (steps : Steps) (inside : Bool) (depth n : ℕ) (rest : List Piece) → AreSteps format inside steps →
      AreWithin depth steps →
      length (steps_pieces steps rest) ≤ n + length rest
      → steps_with (blocks_at depth) n (shapes_in (steps_pieces steps rest)) ≡ Some (steps, shapes_in rest)
  steps_again format stop inside depth zero rest are within le = absurd (omega arith)
  steps_again format stop inside depth (suc n) rest are within le = refl
  steps_again format (step s ss) inside depth zero rest are within le =
      absurd (omega (arith, long_step s (steps_pieces ss rest), long_steps ss rest))
  steps_again format (step s ss) inside depth (suc n) rest are within le =
      one_step (blocks_at depth) n s ss (shapes_in (step_pieces s (steps_pieces ss rest))) (shapes_in (steps_pieces ss rest))
      (shapes_in rest) (no_close s (steps_pieces ss rest))
      (step_again format s inside depth (steps_pieces ss rest) are.0 within.0 (no_finally ss rest))
      (steps_again format ss inside depth n rest are.1 within.1 (omega (arith, le, long_step s (steps_pieces ss rest))))

  step_again : (format : Format) (s : Step) (inside : Bool) (depth : ℕ) (rest : List Piece) → IsStep format inside s → IsWithin depth s →
      after_word word.Finally (shapes_in rest) ≡ None
      → step_at (blocks_at depth) (shapes_in (step_pieces s rest)) ≡ Some (s, shapes_in rest)
  step_again format (sleep n) inside depth rest is within none = refl
  step_again format checkpoint inside depth rest is within none = refl
  step_again format forever inside depth rest is within none = refl
  step_again format (pace n) inside depth rest is within none = refl
  step_again format (find t) inside depth rest is within none = refl
  step_again format (head n) inside depth rest is within none = refl
  step_again format longest inside depth rest is within none = refl
  step_again format (need t n) inside depth rest is within none = refl
  step_again format (raise n) inside depth rest is within none = refl
  step_again format (cancel n) inside depth rest is within none = refl
  step_again format (set_event n) inside depth rest is within none = refl
  step_again format (wait_for n) inside depth rest is within none = refl
  step_again format (ask_for n Acquire body) inside depth rest is within none =
      acquire_again (blocks_at depth) n body rest (block_again format false body depth
      (λ inside' depth' n' rest'. steps_again format body inside' depth' n' rest') is.2 within.0 within.1)
  step_again format (ask_for n Send stop) inside depth rest is within none = refl
  step_again format (ask_for n Send (step s ss)) inside depth rest is within none = absurd is.1
  step_again format (ask_for n Receive body) inside depth rest is within none =
      receive_again (blocks_at depth) n body rest (block_again format false body depth
      (λ inside' depth' n' rest'. steps_again format body inside' depth' n' rest') is.2 within.0 within.1)
  step_again format (close_channel n) inside depth rest is within none = refl
  step_again format (scope n d s f body) inside depth rest is within none =
      scope_again (blocks_at depth) n d s f body rest (block_again format false body depth
      (λ inside' depth' n' rest'. steps_again format body inside' depth' n' rest') is within.0 within.1)
  step_again format (nursery n d s body) inside depth rest is within none =
      nursery_again (blocks_at depth) n d s body rest (block_again format true body depth
      (λ inside' depth' n' rest'. steps_again format body inside' depth' n' rest') is.1 within.0 within.1)
  step_again format (event n body) inside depth rest is within none =
      event_again (blocks_at depth) n body rest (block_again format false body depth
      (λ inside' depth' n' rest'. steps_again format body inside' depth' n' rest') is.1 within.0 within.1)
  step_again format (object n kind body) inside depth rest is within none =
      object_again (blocks_at depth) n kind body rest (block_again format false body depth
      (λ inside' depth' n' rest'. steps_again format body inside' depth' n' rest') is.1 within.0 within.1)
  step_again format (start n o body) inside depth rest is within none =
      start_again (blocks_at depth) n o body rest (block_again format false body depth
      (λ inside' depth' n' rest'. steps_again format body inside' depth' n' rest') is.1 within.0 within.1)
  step_again format (repeat n over body) inside depth rest is within none =
      repeat_again (blocks_at depth) n over body rest (block_again format (starts_in_pass over (loop_inside format inside)) body depth
      (λ inside' depth' n' rest'. steps_again format body inside' depth' n' rest') is.2 within.0 within.1)
  step_again format (attempt body (except n handler) (finally clean)) inside depth rest is within none =
      try_both (blocks_at depth) body n handler clean rest
      (block_again format false body depth (λ inside' depth' n' rest'. steps_again format body inside' depth' n' rest') is.1 within.0.0
      within.0.1)
      (block_again format false handler depth (λ inside' depth' n' rest'. steps_again format handler inside' depth' n' rest') is.2
      within.1.0 within.1.1)
      (block_again format false clean depth (λ inside' depth' n' rest'. steps_again format clean inside' depth' n' rest') is.3 within.2.0
      within.2.1)
  step_again format (attempt body (except n handler) uncleaned) inside depth rest is within none =
      try_handler (blocks_at depth) body n handler rest
      (block_again format false body depth (λ inside' depth' n' rest'. steps_again format body inside' depth' n' rest') is.1 within.0.0
      within.0.1)
      (block_again format false handler depth (λ inside' depth' n' rest'. steps_again format handler inside' depth' n' rest') is.2
      within.1.0 within.1.1)
      none
  step_again format (attempt body unhandled (finally clean)) inside depth rest is within none =
      try_cleanup (blocks_at depth) body clean rest
      (block_again format false body depth (λ inside' depth' n' rest'. steps_again format body inside' depth' n' rest') is.1 within.0.0
      within.0.1)
      (block_again format false clean depth (λ inside' depth' n' rest'. steps_again format clean inside' depth' n' rest') is.3 within.2.0
      within.2.1)
  step_again format (attempt body unhandled uncleaned) inside depth rest is within none = absurd is.0

-- ---- a whole job

one_job : (format : Format) (name : List ℕ) (body : Steps) → blocks_at 32 (shapes_in (steps_pieces body [])) ≡ Some (body, []) →
    job_at format (shapes_in (job_pieces (record { format = format; name = name; steps = body }))) ≡ Some
    (record { format = format; name = name; steps = body })
unfolding keyword_of
one_job format name body reads = rw reads refl

-- a job is read back from its tokens
pub job_again : (job : Tree) → AreSteps job.format false job.steps → AreWithin 31 job.steps →
    job_at job.format (shapes_in (job_pieces job)) ≡ Some job
job_again job are within =
    one_job job.format job.name job.steps (block_again job.format false job.steps 32
    (λ inside depth n rest. steps_again job.format job.steps inside depth n rest) are
    (omega arith) within [])
