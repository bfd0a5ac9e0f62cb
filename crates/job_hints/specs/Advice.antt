-- Hints that are always the same sentence.
use Rattle.std.specs.Prelude.{ℕ, List, Option, Some, None, codes}
use Rattle.job_hints.specs.declared.advice.Advice.{Advice}
use Rattle.job_hints.specs.declared.advice.Advice.TheVariants as advice
use Rattle.job_hints.specs.declared.block.BlockAdvice.{BlockAdvice}
use Rattle.job_hints.specs.declared.block.BlockAdvice.TheVariants as block
use Rattle.job_hints.specs.declared.number.NumberAdvice.{NumberAdvice}
use Rattle.job_hints.specs.declared.number.NumberAdvice.TheVariants as number
use Rattle.job_hints.specs.declared.python.PythonSyntax.{PythonSyntax}
use Rattle.job_hints.specs.declared.python.PythonSyntax.TheVariants as python
use Rattle.job_hints.specs.declared.words.TrioWord.{TrioWord}
use Rattle.job_hints.specs.declared.words.TrioWord.TheVariants as trio
use Rattle.job_hints.specs.declared.shared.ObjectWord.{ObjectWord}
use Rattle.job_hints.specs.declared.shared.ObjectWord.TheVariants as object
use Rattle.job_hints.specs.declared.words.OtherWord.{OtherWord}
use Rattle.job_hints.specs.declared.words.OtherWord.TheVariants as other

-- the first of two hints, if there is one, or otherwise the second
abbrev pub or_advice : Option Advice → Option Advice → Option Advice
or_advice None other = other
or_advice (Some a) other = Some a

-- a block or a step that has another form
abbrev pub block_sentence : BlockAdvice → List ℕ
block_sentence block.NurseryHead =
    codes "a nursery has neither `at` nor `fail`: put a scope around it, as in `scope NAME at 5 fail { nursery NAME { .. } }`\n"
block_sentence block.TaskHead =
    codes "a task has no deadline and no shield: put a scope into it, as in `start NAME { scope NAME after 5 { .. } }`\n"
block_sentence block.OtherHead =
    codes "only scopes and nurseries have deadlines and shields: put a scope into the block, as in `job NAME { scope NAME after 5 { .. } }`\n"
block_sentence block.SecondHandler = codes "a `try` has one handler: for another exception, put a second `try` around this one\n"
block_sentence block.UnnamedHandler = codes "a handler names its exception: `except NAME { .. }`\n"
block_sentence block.NoSemicolon = codes "a `;` is missing after the step before it\n"
block_sentence block.TaskByName =
    codes "a task cannot be cancelled by its name: put a scope into the task, and the `cancel` into that scope\n"

-- a number that has another form, or is out of its range
abbrev pub number_sentence : NumberAdvice → List ℕ
number_sentence number.NoUnit = codes "a number is digits alone: times are whole ticks without a unit, as in `sleep 500;`\n"
number_sentence number.NoSeparator = codes "a number is digits alone: `1000`, and not `1_000`\n"
number_sentence number.LeadingZero = codes "a number has no leading zero: `5`, and not `05`\n"
number_sentence number.Copies = codes "the number after `over` is from 1 to 64\n"
number_sentence number.Pace = codes "the number after `pace` is from 1 to 1000000\n"
number_sentence number.Passes = codes "the number after `repeat` is from 0 to 1000\n"
number_sentence number.Tokens = codes "the number of tokens of a limiter is from 1 to 1000000\n"
number_sentence number.Places = codes "the number of places of a channel is from 0 to 1000000\n"
number_sentence number.Other = codes "the number here is from 0 to 1000000000\n"
number_sentence number.Uncounted =
    codes "a limiter has the number of its tokens after its name, a channel that of its places: `limiter NAME 2 { .. }`, `channel NAME 0 { .. }`\n"

-- what Python writes in another way, or what only Python has
abbrev pub python_sentence : PythonSyntax → List ℕ
python_sentence python.NoDots =
    codes "Trio's names are written here without `trio.`: `sleep 1;`, `scope NAME after 5 { .. }`, `nursery NAME { .. }`\n"
python_sentence python.DoubleQuotes = codes "a string is written in double quotes, as in `find \"error\";`\n"
python_sentence python.NoHyphens = codes "a name has letters, digits and `_`: `my_job`, and not `my-job`\n"
python_sentence python.NoParentheses = codes "a step has no parentheses: `sleep 1;`, and not `sleep(1)`\n"
python_sentence python.NoColons = codes "a block is written between braces, without a colon: `scope work after 5 { .. }`\n"
python_sentence python.OneException = codes "a handler has one name: for another one, put a second `try` around this one\n"
python_sentence python.NoStars = codes "`except NAME { .. }` is Python's `except*` already: leave out the star\n"
python_sentence python.NoVariables = codes "there are no variables: a job has steps and blocks alone\n"
python_sentence python.NoLists = codes "there are no lists: each step ends with `;`, as in `cancel first; cancel second;`\n"

-- a word of a program on Trio
abbrev pub trio_sentence : TrioWord → List ℕ
trio_sentence trio.MoveOn = codes "Trio's `move_on_after` is `scope NAME after N { .. }` here\n"
trio_sentence trio.FailAfter = codes "Trio's `fail_after` is `scope NAME after N fail { .. }` here\n"
trio_sentence trio.Await = codes "there is no `await` here: a step that waits is written as `sleep 1;`\n"
trio_sentence trio.Async = codes "there is no `async` here: a nursery is `nursery NAME { .. }`, a task `start NAME { .. }`\n"
trio_sentence trio.OpenNursery = codes "Trio's `open_nursery` is `nursery NAME { .. }` here\n"
trio_sentence trio.StartSoon = codes "Trio's `start_soon` is `start NAME { .. }` here, right inside a nursery\n"
trio_sentence trio.SleepForever = codes "Trio's `sleep_forever` is `forever;` here\n"
trio_sentence trio.Event = codes "Trio's `Event` is `event NAME { .. }` here, around the tasks that use it\n"
trio_sentence trio.SetEvent = codes "Trio's `NAME.set()` is `set NAME;` here\n"
trio_sentence trio.WaitEvent = codes "Trio's `await NAME.wait()` is `wait NAME;` here\n"

-- what is called in another way, of limiters and channels
abbrev pub object_sentence : ObjectWord → List ℕ
object_sentence object.OpenChannel = codes "Trio's `open_memory_channel(N)` is `channel NAME N { .. }` here, around the tasks that use it\n"
object_sentence object.CapacityLimiter = codes "Trio's `CapacityLimiter(N)` is `limiter NAME N { .. }` here, around the tasks that use it\n"
object_sentence object.Send = codes "Trio's `await NAME.send(..)` is `send NAME;` here\n"
object_sentence object.Receive = codes "Trio's `await NAME.receive()` is `receive NAME { .. }` here\n"
object_sentence object.Acquire =
    codes "Trio's `await NAME.acquire()` is `acquire NAME { .. }` here: the token comes back at the end of the block\n"
object_sentence object.Close = codes "Trio's `NAME.close()` is `close NAME;` here\n"
object_sentence object.Queue = codes "a queue is `channel NAME N { .. }` here, in format 3, with `send NAME;` and `receive NAME { .. }`\n"
object_sentence object.Lock =
    codes "a lock is `limiter NAME 1 { .. }` here, a semaphore `limiter NAME N { .. }`, in format 3, with `acquire NAME { .. }`\n"

-- a word of another language or library
abbrev pub other_sentence : OtherWord → List ℕ
other_sentence other.Condition = codes "there are no conditions: only an exception or a cancellation changes the course of a job\n"
other_sentence other.Loop = codes "a loop is `repeat N { .. }`, in formats 2 and 3; a `raise` in it leaves it, with a `try` around it\n"
other_sentence other.Exit = codes "a loop or a block is left by `raise NAME;`, with `try { .. } except NAME { .. }` around it\n"
other_sentence other.Catch = codes "a handler is `try { .. } except NAME { .. }` here\n"
other_sentence other.Task = codes "a task is `start NAME { .. }` here, right inside a nursery\n"
other_sentence other.With = codes "leave out `with`: a block is `scope NAME after 5 { .. }` or `nursery NAME { .. }` here\n"
other_sentence other.Timeout = codes "a timeout is `scope NAME after N fail { .. }` here\n"
other_sentence other.Defer = codes "`defer` is `try { .. } finally { .. }` here\n"
other_sentence other.Select =
    codes "`select` is a nursery here which its first task cancels: `nursery first { start a { sleep 1; cancel first; } .. }`\n"
other_sentence other.Group = codes "a group of tasks is `nursery NAME { .. }` here\n"

-- the sentence, with its newline
abbrev pub advice_text : Advice → List ℕ
advice_text advice.CarriageReturn = codes "its line ends are carriage returns and newlines: save it with newlines alone\n"
advice_text advice.BlankAfterVersion = codes "a blank follows the number: the first line ends right after it\n"
advice_text advice.UnknownFormat = codes "the formats are 1, 2 and 3: begin a new job text with the line `trio-job 3`\n"
advice_text advice.NoFirstLine = codes "the line with the format is missing: begin a new job text with the line `trio-job 3`\n"
advice_text advice.ByteOrderMark = codes "the text begins with a byte order mark: save it as plain ASCII\n"
advice_text advice.NewerComment = codes "format 3 has comments: begin the job text with the line `trio-job 3`\n"
advice_text advice.CommentSign = codes "a comment begins with `#`, in a job text of format 3\n"
advice_text advice.WholeTicks = codes "times are whole ticks: choose a smaller tick, and multiply every number\n"
advice_text advice.NewerFormat = codes "format 2 has this: begin the job text with the line `trio-job 2`\n"
advice_text advice.NewestFormat = codes "format 3 has this: begin the job text with the line `trio-job 3`\n"
advice_text advice.Unnamed = codes "each job, scope, nursery, event, limiter, channel and start has a name, as in `scope work after 5 { .. }`\n"
advice_text advice.HeadOrder = codes "the head of a scope is `scope NAME after N shield fail`, in this order\n"
advice_text advice.StartInside =
    codes "a `start` is directly inside a nursery, in format 3 also in a `repeat` without `over` there: `nursery NAME { repeat 3 { start NAME { .. } } }`\n"
advice_text (advice.Block a) = block_sentence a
advice_text (advice.Number a) = number_sentence a
advice_text (advice.Python syntax) = python_sentence syntax
advice_text (advice.Trio word) = trio_sentence word
advice_text (advice.Object word) = object_sentence word
advice_text (advice.Other word) = other_sentence word
