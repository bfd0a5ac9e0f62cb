-- Words of programs on Trio and of other languages and libraries.
use Rattle.std.specs.Prelude.{ℕ, Bool, ◌||◌, if◌then◌else◌, List, Option, Some, None, codes}
use Rattle.std.specs.Str.{bytes_eq}
use Rattle.job_tokens.specs.declared.token.Shape.{Shape}
use Rattle.job_tokens.specs.Shapes.{word_in}
use Rattle.job_syntax.specs.Nonterminals.{◌>>=◌}
use Rattle.job_hints.specs.declared.advice.Advice.{Advice}
use Rattle.job_hints.specs.declared.advice.Advice.TheVariants as advice
use Rattle.job_hints.specs.declared.words.TrioWord.TheVariants as trio
use Rattle.job_hints.specs.declared.shared.ObjectWord.TheVariants as object
use Rattle.job_hints.specs.declared.words.OtherWord.TheVariants as other
use Rattle.job_hints.specs.Advice.{or_advice}

-- what a job has in place of a word of a program on Trio
abbrev pub trio_advice : List ℕ → Option Advice
trio_advice word =
    if bytes_eq word (codes "move_on_after") || bytes_eq word (codes "move_on_at") then Some (advice.Trio trio.MoveOn)
    else if bytes_eq word (codes "fail_after") || bytes_eq word (codes "fail_at") then Some (advice.Trio trio.FailAfter)
    else if bytes_eq word (codes "await") then Some (advice.Trio trio.Await)
    else if bytes_eq word (codes "async") then Some (advice.Trio trio.Async)
    else if bytes_eq word (codes "open_nursery") then Some (advice.Trio trio.OpenNursery)
    else if bytes_eq word (codes "start_soon") then Some (advice.Trio trio.StartSoon)
    else if bytes_eq word (codes "sleep_forever") then Some (advice.Trio trio.SleepForever)
    else if bytes_eq word (codes "Event") then Some (advice.Trio trio.Event)
    else None

-- ---- words of other languages and libraries

abbrev pub is_lock : List ℕ → Bool
is_lock word = bytes_eq word (codes "Lock") || bytes_eq word (codes "Semaphore")

-- what a job has in place of a word that other programs call a limiter or a channel
abbrev pub object_advice : List ℕ → Option Advice
object_advice word =
    if bytes_eq word (codes "open_memory_channel") then Some (advice.Object object.OpenChannel)
    else if bytes_eq word (codes "CapacityLimiter") then Some (advice.Object object.CapacityLimiter)
    else if bytes_eq word (codes "Queue") then Some (advice.Object object.Queue)
    else if is_lock word then Some (advice.Object object.Lock)
    else None

abbrev pub is_condition : List ℕ → Bool
is_condition word = bytes_eq word (codes "if") || bytes_eq word (codes "else") || bytes_eq word (codes "elif")

abbrev pub is_loop : List ℕ → Bool
is_loop word = bytes_eq word (codes "while") || bytes_eq word (codes "for") || bytes_eq word (codes "loop")

-- what leaves a loop or a function, or begins the next pass
abbrev pub is_exit : List ℕ → Bool
is_exit word = bytes_eq word (codes "break") || bytes_eq word (codes "continue") || bytes_eq word (codes "return")

-- what starts a task
abbrev pub is_task : List ℕ → Bool
is_task word =
    bytes_eq word (codes "launch") || bytes_eq word (codes "go") || bytes_eq word (codes "spawn") || bytes_eq word (codes "create_task")

-- what begins a block with a timeout
abbrev pub is_timeout : List ℕ → Bool
is_timeout word = bytes_eq word (codes "timeout") || bytes_eq word (codes "withTimeout") || bytes_eq word (codes "wait_for")

-- a group of tasks
abbrev pub is_group : List ℕ → Bool
is_group word = bytes_eq word (codes "TaskGroup") || bytes_eq word (codes "create_task_group") || bytes_eq word (codes "coroutineScope")

-- what a job has in place of such a word
abbrev pub other_advice : List ℕ → Option Advice
other_advice word =
    if is_condition word then Some (advice.Other other.Condition)
    else if is_loop word then Some (advice.Other other.Loop)
    else if is_exit word then Some (advice.Other other.Exit)
    else if bytes_eq word (codes "catch") then Some (advice.Other other.Catch)
    else if is_task word then Some (advice.Other other.Task)
    else if bytes_eq word (codes "with") then Some (advice.Other other.With)
    else if is_timeout word then Some (advice.Other other.Timeout)
    else if bytes_eq word (codes "defer") then Some (advice.Other other.Defer)
    else if bytes_eq word (codes "select") then Some (advice.Other other.Select)
    else if is_group word then Some (advice.Other other.Group)
    else None

-- ---- all

abbrev pub foreign_advice : List ℕ → Option Advice
foreign_advice word = or_advice (trio_advice word) (or_advice (object_advice word) (other_advice word))

-- the advice on the word of a token
abbrev pub word_advice : Option Shape → Option Advice
word_advice shape = shape >>= λ s. word_in s >>= λ w. foreign_advice w
