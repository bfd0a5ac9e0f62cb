-- The words in which the worked examples are written: short names for jobs and for records.
use Rattle.std.specs.Prelude.{ℕ, true, false, Option, None, Some, List, [], ◌∷◌, codes}
use Rattle.job_tree.specs.declared.deadline.Deadline.TheVariants.{Never, After, At}
use Rattle.job_tree.specs.declared.format.Format.TheVariants.{Two}
use Rattle.job_tree.specs.Tree.{Step, scope, nursery, event, start, repeat, attempt, Steps, stop, step, unhandled, except, uncleaned, finally, Tree}
use Rattle.exceptions.specs.Exceptions.{Label, by_nursery, by_handler, Exc, raised, group, parts_of}
use Rattle.job_tree.specs.declared.object.Ask.{Ask}
use Rattle.job_meaning.specs.Log.{line, waited, was_granted, scope_left, nursery_left}
use Rattle.job_meaning.specs.Walk.{walk, and_then, sleep_result, pace_result, lines_result, raise_result, need_result, cancel_result, set_result, event_wait, block, event_block, with_sign, nursery_result, child, handler_result, cleanup_result}
use Rattle.job_meaning.specs.Meaning.{Noted, Record, meaning, meaning_records, meaning_end, meaning_grants, meaning_table}
use Rattle.job_meaning.specs.Follow.{follow}

-- the block of some steps
abbrev pub block_of : List Step → Steps
block_of [] = stop
block_of (s ∷ ss) = step s (block_of ss)

abbrev pub job_of : List Step → Tree
job_of ss = record { format = Two; name = codes "main"; steps = block_of ss }

-- scope NAME { .. }
abbrev pub scope_of : List ℕ → List Step → Step
scope_of name ss = scope name Never false false (block_of ss)

-- scope NAME after N { .. }
abbrev pub timed_scope : List ℕ → ℕ → List Step → Step
timed_scope name n ss = scope name (After n) false false (block_of ss)

-- scope NAME at N { .. }
abbrev pub scope_at : List ℕ → ℕ → List Step → Step
scope_at name n ss = scope name (At n) false false (block_of ss)

-- scope NAME after N fail { .. }
abbrev pub fail_scope : List ℕ → ℕ → List Step → Step
fail_scope name n ss = scope name (After n) false true (block_of ss)

-- scope NAME shield { .. }
abbrev pub shielded_scope : List ℕ → List Step → Step
shielded_scope name ss = scope name Never true false (block_of ss)

-- scope NAME after N shield { .. }
abbrev pub timed_shield : List ℕ → ℕ → List Step → Step
timed_shield name n ss = scope name (After n) true false (block_of ss)

-- nursery NAME { .. }
abbrev pub nursery_of : List ℕ → List Step → Step
nursery_of name ss = nursery name Never false (block_of ss)

-- event NAME { .. }
abbrev pub event_of : List ℕ → List Step → Step
event_of name ss = event name (block_of ss)

-- repeat N { .. }
abbrev pub repeat_of : ℕ → List Step → Step
repeat_of count ss = repeat count false (block_of ss)

-- start NAME { .. }
abbrev pub start_of : List ℕ → List Step → Step
start_of name ss = start name None (block_of ss)

-- start NAME over K { .. }
abbrev pub start_over : List ℕ → ℕ → List Step → Step
start_over name k ss = start name (Some k) (block_of ss)

-- try { .. } except NAME { .. }
abbrev pub try_except : List Step → List ℕ → List Step → Step
try_except body name handler = attempt (block_of body) (except name (block_of handler)) uncleaned

-- try { .. } finally { .. }
abbrev pub try_finally : List Step → List Step → Step
try_finally body cleanup = attempt (block_of body) unhandled (finally (block_of cleanup))

abbrev pub label_named : List ℕ → Label
label_named name = record { name = name; indices = [] }

-- NAME.I
abbrev pub label_at : List ℕ → ℕ → Label
label_at name i = record { name = name; indices = i ∷ [] }

-- the exception NAME(TASK@TICK)
abbrev pub raised_by : List ℕ → List ℕ → ℕ → Exc
raised_by name task tick = raised name (label_named task) tick

-- a nursery's group NAME[..], and a handler's *[..]
abbrev pub group_by : List ℕ → List Exc → Exc
group_by name es = group (by_nursery (label_named name)) (parts_of es)

abbrev pub handler_group : List Exc → Exc
handler_group es = group by_handler (parts_of es)

-- a line of the given number of bytes at a place in the input
abbrev pub line_at : ℕ → ℕ → ℕ → Noted
line_at tick at len = record { tick = tick; entry = line (record { at = at; len = len }) }

abbrev pub scope_caught : List ℕ → ℕ → Noted
scope_caught name tick = record { tick = tick; entry = scope_left (label_named name) true }

abbrev pub scope_passed : List ℕ → ℕ → Noted
scope_passed name tick = record { tick = tick; entry = scope_left (label_named name) false }

abbrev pub nursery_caught : List ℕ → ℕ → Noted
nursery_caught name tick = record { tick = tick; entry = nursery_left (label_named name) true }

abbrev pub nursery_passed : List ℕ → ℕ → Noted
nursery_passed name tick = record { tick = tick; entry = nursery_left (label_named name) false }

-- an event for which a task waited, and one of a pass or of a copy
abbrev pub waited_for : List ℕ → ℕ → Noted
waited_for name tick = record { tick = tick; entry = waited (label_named name) }

-- what a limiter or channel granted
abbrev pub got : Ask → List ℕ → ℕ → Noted
got ask name tick = record { tick = tick; entry = was_granted ask (label_named name) }

-- the record of a task: its start, its end, its exception and its entries
abbrev pub record_of : Label → ℕ → ℕ → Option Exc → List Noted → Record
record_of label from to exc entries = record { label = label; start = from; end = to; exc = exc; entries = entries }

-- the job's own task
abbrev pub main_ran : ℕ → ℕ → Option Exc → List Noted → Record
main_ran from to exc entries = record_of (label_named (codes "main")) from to exc entries

-- the records of the steps of a job over an input; an example that names it computes with the whole
-- meaning
unfoldable pub run_of : List Step → List ℕ → List Record
unfolding meaning walk and_then sleep_result pace_result lines_result raise_result need_result cancel_result set_result event_wait block event_block with_sign nursery_result child handler_result cleanup_result
run_of ss input = meaning_records (job_of ss) input

-- the tick at which they end
unfoldable pub end_of : List Step → List ℕ → ℕ
unfolding meaning walk and_then sleep_result pace_result lines_result raise_result need_result cancel_result set_result event_wait block event_block with_sign nursery_result child handler_result cleanup_result
end_of ss input = meaning_end (job_of ss) input

-- the tick at which the walk that follows the table of their meaning ends
unfoldable pub followed_end_of : List Step → List ℕ → ℕ
unfolding follow meaning walk and_then sleep_result pace_result lines_result raise_result need_result cancel_result set_result event_wait block event_block with_sign nursery_result child handler_result cleanup_result
followed_end_of ss input = (follow (meaning_table (job_of ss) input) (meaning_grants (job_of ss) input) (job_of ss) input).end
