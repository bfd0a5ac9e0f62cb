-- What is wrong with a job text, in a sentence.
use Rattle.std.specs.Prelude.{ℕ, ◌==◌, nat_lt, if◌then◌else◌, List, Option, Some, None, codes}
use Rattle.job_tree.specs.Words.{is_digit, is_letter}
use Rattle.job_syntax.specs.declared.nonterminal.Nonterminal.{Nonterminal}
use Rattle.job_syntax.specs.declared.nonterminal.Nonterminal.TheVariants as nonterminal
use Rattle.job_reader.specs.declared.target.TargetKind.{TargetKind}
use Rattle.job_reader.specs.declared.target.TargetKind.TheVariants as target
use Rattle.job_reader.specs.declared.fault.JobKind.{JobKind}
use Rattle.job_reader.specs.declared.fault.JobKind.TheVariants.{TooLong, NotAscii, Version, Token, Number, Syntax, Depth, Twice, NotEnclosing, Reserved, TooLarge, NoMemory}

abbrev pub token_sentence : Option ℕ → List ℕ
token_sentence None = codes "a word, a number, a string or one of `{`, `}` and `;` was expected"
token_sentence (Some b) =
    if b == 34 then
    codes "a string of 1 to 64 bytes was expected: printable, or `\\\"`, `\\\\` or `\\x` and two of 0-9a-f, and closed by a quote"
    else if is_digit b then codes "a letter or `_` directly follows this number"
    else if is_letter b then codes "this word has more than 32 bytes"
    else codes "a word, a number, a string or one of `{`, `}` and `;` was expected"

-- why a text has no such byte: only format 3 refuses bytes below 128 here
abbrev pub byte_sentence : Option ℕ → List ℕ
byte_sentence None = codes "this byte is not ASCII"
byte_sentence (Some b) = if nat_lt b 128 then codes "a control character: a job of format 3 is plain text" else codes "this byte is not ASCII"

-- what the grammar expects at a place; `None` is the end of the text
abbrev pub expected_sentence : Option Nonterminal → List ℕ
expected_sentence None = codes "expected the text's end: nothing may follow the job's `}`"
expected_sentence (Some nonterminal.Job) = codes "expected `job NAME { .. }`"
expected_sentence (Some nonterminal.Steps) = codes "expected a step, as `sleep 1;`, or `}` (a `start` only directly inside a nursery or a `repeat` there)"
expected_sentence (Some nonterminal.Items) = codes "expected a step, as `sleep 1;`, a `start NAME { .. }` or `}`"
expected_sentence (Some nonterminal.StepsTail) = codes "expected `except NAME { .. }` or `finally { .. }`"
expected_sentence (Some nonterminal.ItemsTail) = codes "expected `except NAME { .. }` or `finally { .. }`"
expected_sentence (Some nonterminal.StepsCleanup) = codes "expected `finally { .. }`, a step or `}`"
expected_sentence (Some nonterminal.ItemsCleanup) = codes "expected `finally { .. }`, a step, a `start` or `}`"
expected_sentence (Some nonterminal.Scope) = codes "expected `after N`, `at N`, `shield`, `fail` or `{`"
expected_sentence (Some nonterminal.Shield) = codes "expected `shield`, `fail` or `{`"
expected_sentence (Some nonterminal.Fail) = codes "expected `fail` or `{`"
expected_sentence (Some nonterminal.Nursery) = codes "expected `after N`, `shield` or `{` (in format 1 only `{`)"
expected_sentence (Some nonterminal.NurseryShield) = codes "expected `shield` or `{`"
expected_sentence (Some nonterminal.Over) = codes "expected `over N` or `{`"
expected_sentence (Some nonterminal.Passes) = codes "expected a number or `over N`"
expected_sentence (Some nonterminal.ItemsPasses) = codes "expected a number or `over N`"
expected_sentence (Some nonterminal.Given) = codes "expected a name"
expected_sentence (Some nonterminal.Raised) = codes "expected the name of an exception"
expected_sentence (Some nonterminal.Handled) = codes "expected the name of an exception"
expected_sentence (Some nonterminal.Target) =
    codes "expected the name of an enclosing scope or nursery, after `set` and `wait` of an event, after `acquire` of a limiter, after `send`, `receive` and `close` of a channel"
expected_sentence (Some nonterminal.Number) = codes "expected a number"
expected_sentence (Some nonterminal.Text) = codes "expected a string, as `\"error\"`"
expected_sentence (Some nonterminal.Open) = codes "expected `{`"
expected_sentence (Some nonterminal.Semicolon) = codes "expected `;`"

-- the name in a step that uses this is that of nothing around it
abbrev pub stray_sentence : TargetKind → List ℕ
stray_sentence target.Scope = codes "no enclosing scope or nursery has this name"
stray_sentence target.Event = codes "no enclosing event has this name"
stray_sentence target.Limiter = codes "no enclosing limiter has this name"
stray_sentence target.Channel = codes "no enclosing channel has this name"

-- What is wrong at a place with this byte (`None` is the end of the text), where the grammar expects this; or where a name is that of
-- nothing around it, in a step that uses such a thing.
abbrev pub sentence_of : JobKind → Option ℕ → Option Nonterminal → TargetKind → List ℕ
sentence_of TooLong byte asked used = codes "the job text has more than 65536 bytes"
sentence_of NotAscii byte asked used = byte_sentence byte
sentence_of Version byte asked used = codes "a job text begins with the line `trio-job 1`, `trio-job 2` or `trio-job 3`, ended by a newline alone"
sentence_of Token byte asked used = token_sentence byte
sentence_of Number byte asked used = codes "a number that is out of its range or has a leading zero"
sentence_of Syntax byte asked used = expected_sentence asked
sentence_of Depth byte asked used = codes "blocks are nested more than 32 deep"
sentence_of Twice byte asked used =
    codes "this name was given before: jobs, scopes, nurseries, events, limiters, channels and starts need names of their own"
sentence_of NotEnclosing byte asked used = stray_sentence used
sentence_of Reserved byte asked used = codes "this name is reserved: a name must not be a keyword or `Cancelled`, and `TooSlow` is allowed only after `except`"
sentence_of TooLarge byte asked used =
    codes "the job has more than 1000000 steps, in format 1 more than 100000, the copies that `over` makes and the passes of `repeat` counted"
sentence_of NoMemory byte asked used = codes "no memory"
