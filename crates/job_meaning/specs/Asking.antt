-- What a task requests from the lines of its part, the answer, and what the task does with it.
use Rattle.std.specs.Prelude.{ℕ, Option, Some, None, List, [], ◌∷◌}
use Rattle.input_lines.specs.Lines.{Span}
use Rattle.input_lines.specs.Kernels.{found_in, head_of, longest_in, needed_in, count_in}
use Rattle.job_meaning.specs.Log.{Result}
use Rattle.job_meaning.specs.Moments.{Now}
use Rattle.job_meaning.specs.Walk.{Stack, Here, done_at, pace_ticks, lines_result, pace_result, raise_result}

-- a kernel, to run on a task's part
pub data Kernel : Type 0 where
  find : (text : List ℕ) → Kernel
  head : (most : ℕ) → Kernel
  longest : Kernel
  need : (text : List ℕ) → Kernel
  count : Kernel

-- what a kernel answers: lines, that there is no such line, or a number of lines
pub data Answer : Type 0 where
  lines : (shown : List Span) → Answer
  missing : Answer
  counted : (total : ℕ) → Answer

abbrev pub one_line : Option Span → Answer
one_line None = missing
one_line (Some l) = lines (l ∷ [])

-- the answer on the part of a task
abbrev pub answer_of : Kernel → Here → Answer
answer_of (find text) here = lines (found_in here.input text here.part)
answer_of (head most) here = lines (head_of here.input most here.part)
answer_of longest here = lines (longest_in here.input here.part)
answer_of (need text) here = one_line (needed_in here.input text here.part)
answer_of count here = counted (count_in here.input here.part)

-- what a task does with the answer: it shows the lines; it raises if there is none; it sleeps by the count
pub data Purpose : Type 0 where
  shows : Purpose
  needs : (name : List ℕ) → Purpose
  paces : (per_tick : ℕ) → Purpose

-- a kernel is asked for a purpose: lines to show, a line that is needed, or a count to sleep by
abbrev pub Suits : Kernel → Purpose → Type 0
Suits (find text) shows = Unit {0}
Suits (head most) shows = Unit {0}
Suits longest shows = Unit {0}
Suits (need text) (needs name) = Unit {0}
Suits count (paces k) = Unit {0}
Suits _ _ = ⊥

-- the result of an answer
abbrev pub answer_result : Answer → Purpose → Here → Stack → Now → Result
answer_result (lines ls) purpose here st now = lines_result ls now
answer_result missing (needs name) here st now = raise_result name here now
answer_result missing shows here st now = done_at now
answer_result missing (paces k) here st now = done_at now
answer_result (counted n) (paces k) here st now = pace_result here.clock st (pace_ticks n k) now.at
answer_result (counted n) shows here st now = done_at now
answer_result (counted n) (needs name) here st now = done_at now
