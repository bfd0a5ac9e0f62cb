-- What the program has for the steps of a block: a piece of text for each of them, in order. Whether a block or a cleanup gets a
-- function of its own, as deeply nested ones do, is left open.
use Rattle.std.specs.Prelude.{ℕ, true, false, List, ◌++◌, ◌⊎◌, codes}
use Rattle.job_tree.specs.declared.object.Ask.TheVariants.{Acquire, Send, Receive}
use Rattle.job_tree.specs.Tree.{Step, ask_for, scope, nursery, event, object, start, repeat, attempt, Steps, stop, step, Handled, unhandled, except, Cleaned, uncleaned, finally}
use Rattle.trio_text.specs.Uses.{Known}
use Rattle.trio_text.specs.Pieces.{Adds, AddsNothing, Then}
use Rattle.trio_text.specs.Lines.{deeper, with_line, with_nested_block, with_nested_call}
use Rattle.trio_text.specs.Statements.{with_plain, with_scope, with_nursery, with_event, with_object, with_acquire, with_send, with_received, with_receive, with_task, with_starts, with_repeat, with_each_part, with_each_cut, with_handling}

-- the steps of a block, or `pass` where it has none
abbrev pub OrPass : Steps → (ℕ → List ℕ → List ℕ → Type 0) → ℕ → List ℕ → List ℕ → Type 0
OrPass stop Written level = Adds (with_line level (codes "pass"))
OrPass (step s ss) Written level = Written level

-- what is inside: at this level, or in a function of its own that is called
abbrev pub Inside : (ℕ → List ℕ → List ℕ → Type 0) → ℕ → List ℕ → List ℕ → Type 0
Inside Written level before after = Written level before after
    ⊎ Then (Adds (with_nested_block level)) (Then (Written (deeper level)) (Adds (with_nested_call level))) before after

-- the body of a `try` and its handler
abbrev pub Tried : (ℕ → List ℕ → List ℕ → Type 0) → (ℕ → List ℕ → List ℕ → Type 0) → ℕ → List ℕ → List ℕ → Type 0
Tried Body Handler level = Then (Adds (with_line level (codes "try:"))) (Then (Body (deeper level)) (Handler level))

-- the `finally` of a `try`
abbrev pub Finally : (ℕ → List ℕ → List ℕ → Type 0) → ℕ → List ℕ → List ℕ → Type 0
Finally Cleanup level = Then (Adds (with_line level (codes "finally:"))) (Cleanup (deeper level))

-- the lines that begin the functions of a `try` and of its cleanup
unfoldable pub with_nested_try : ℕ → List ℕ → List ℕ
with_nested_try level before = with_line (deeper level) (codes "async def nested_cleanup():") (with_nested_block level before)

-- the lines that call them
unfoldable pub with_nested_calls : ℕ → List ℕ → List ℕ
with_nested_calls level before = with_nested_call level
    (with_line (deeper (deeper level)) (codes "await nested_cleanup()") (with_line (deeper level) (codes "finally:") before))

-- a `try` in a function of its own, with a function for its cleanup
abbrev pub Apart : (ℕ → List ℕ → List ℕ → Type 0) → (ℕ → List ℕ → List ℕ → Type 0) → ℕ → List ℕ → List ℕ → Type 0
Apart Cleanup Trying level = Then (Adds (with_nested_try level)) (Then (Cleanup (deeper (deeper level)))
    (Then (Adds (λ before. before ++ codes "\n")) (Then (Trying (deeper level)) (Adds (with_nested_calls level)))))

abbrev mutual
  -- the steps of a block, one after the other; `around` is the nursery in whose body, or in a `repeat` there, they are
  pub Writes : Known → List ℕ → Steps → ℕ → List ℕ → List ℕ → Type 0
  Writes known around stop level = AddsNothing
  Writes known around (step s ss) level = Then (WritesStep known around s level) (Writes known around ss level)

  -- one step: its own lines, and what is inside it
  pub WritesStep : Known → List ℕ → Step → ℕ → List ℕ → List ℕ → Type 0
  WritesStep known around (scope name deadline shield fail body) level =
      Then (Adds (with_scope level name deadline shield fail)) (Inside (OrPass body (Writes known around body)) (deeper level))
  WritesStep known around (nursery name deadline shield body) level =
      Then (Adds (with_nursery level name deadline shield)) (Inside (OrPass body (Writes known name body)) (deeper level))
  -- an event, limiter or channel is no block of Python: its steps follow it
  WritesStep known around (event name body) level = Then (Adds (with_event level name)) (Writes known around body level)
  WritesStep known around (object name kind body) level = Then (Adds (with_object level name kind)) (Writes known around body level)
  WritesStep known around (ask_for name Acquire body) level =
      Then (Adds (with_acquire level name)) (Inside (OrPass body (Writes known around body)) (deeper level))
  -- the block of a `send` is empty
  WritesStep known around (ask_for name Send body) level = Then (Adds (with_send level name)) (Writes known around body level)
  -- what is done with a part that is received is a function, which has it as its part
  WritesStep known around (ask_for name Receive body) level =
      Then (Adds (with_received level)) (Then (Inside (OrPass body (Writes known around body)) (deeper level))
      (Adds (with_receive level name)))
  WritesStep known around (start name over body) level =
      Then (Adds (with_task level name over)) (Then (Inside (OrPass body (Writes known around body)) (deeper level))
      (Adds (with_starts level around name over)))
  WritesStep known around (repeat count false body) level =
      Then (Adds (with_repeat level count)) (Inside (OrPass body (Writes known around body)) (deeper level))
  -- each pass over a part of the input is a call of a function
  WritesStep known around (repeat count true body) level =
      Then (Adds (with_each_part level)) (Then (Inside (OrPass body (Writes known around body)) (deeper level))
      (Adds (with_each_cut level count)))
  WritesStep known around (attempt body handler cleanup) level =
      WritesTry known around cleanup (Tried (Inside (OrPass body (Writes known around body))) (WritesHandler known around handler)) level
  WritesStep known around s level = Adds (with_plain known level s)

  pub WritesHandler : Known → List ℕ → Handled → ℕ → List ℕ → List ℕ → Type 0
  WritesHandler known around unhandled level = AddsNothing
  WritesHandler known around (except name body) level =
      Then (Adds (with_handling known level name)) (Inside (OrPass body (Writes known around body)) (deeper (deeper level)))

  -- a `try` with this cleanup, whose body and handler are given
  pub WritesTry : Known → List ℕ → Cleaned → (ℕ → List ℕ → List ℕ → Type 0) → ℕ → List ℕ → List ℕ → Type 0
  WritesTry known around uncleaned Trying level before after = Trying level before after
  WritesTry known around (finally body) Trying level before after =
      Then (Trying level) (Finally (Inside (OrPass body (Writes known around body))) level) before after
      ⊎ Apart (Inside (OrPass body (Writes known around body))) Trying level before after
