-- The meaning of a job over an input: one thread's walk of its tree, and the records of that walk.
use Rattle.std.specs.Prelude.{ℕ, zero, suc, ◌+◌, ◌*◌, Option, List, [], ◌∷◌, ◌++◌, length}
use Rattle.job_tree.specs.Tree.{Tree}
use Rattle.exceptions.specs.Exceptions.{Label, Exc}
use Rattle.cancel_scopes.specs.Sight.{Tick}
use Rattle.job_meaning.specs.Log.{Entry, Log, nil, entry, sign, entered, act, task, Result, Table, table_of}
use Rattle.job_meaning.specs.Sharing.{Grants, no_grants, grants_of, grants_before}
use Rattle.job_meaning.specs.Moments.{clock_of, rounds_in_a_tick, tick_of, only_at}
use Rattle.job_meaning.specs.declared.limits.TheConstants.{LAST_TICK}
use Rattle.job_meaning.specs.declared.clock.Clock.{Clock}
use Rattle.job_meaning.specs.Walk.{Mode, two_walks, Here, no_stack, walk}

-- an entry with its tick
pub record Noted : Type 0 where
  pub tick : ℕ
  pub entry : Entry

-- what a report contains for a task: its label, its start and end, its exception, and its entries in
-- order
pub record Record : Type 0 where
  pub label : Label
  pub start : ℕ
  pub end : ℕ
  pub exc : Option Exc
  pub entries : List Noted

-- what a task itself noted
abbrev pub entries_of : Clock → Log → List Noted
entries_of clock nil = []
entries_of clock (entry m e rest) = record { tick = tick_of clock m; entry = e } ∷ entries_of clock rest
entries_of clock (sign l m rest) = entries_of clock rest
entries_of clock (entered l m d rest) = entries_of clock rest
entries_of clock (act l m a rest) = entries_of clock rest
entries_of clock (task l s u e own rest) = entries_of clock rest

-- the records of the tasks in a log: each followed by those of its descendants
abbrev pub records_of : Clock → Log → List Record
records_of clock nil = []
records_of clock (entry m e rest) = records_of clock rest
records_of clock (sign l m rest) = records_of clock rest
records_of clock (entered l m d rest) = records_of clock rest
records_of clock (act l m a rest) = records_of clock rest
records_of clock (task l s u e own rest) =
    record { label = l; start = tick_of clock s; end = tick_of clock u; exc = e; entries = entries_of clock own }
    ∷ (records_of clock own ++ records_of clock rest)

-- the labels that a task itself entered, in order
abbrev pub entered_by : Log → List Label
entered_by nil = []
entered_by (entry t e rest) = entered_by rest
entered_by (sign l t rest) = entered_by rest
entered_by (entered l t d rest) = l ∷ entered_by rest
entered_by (act l m a rest) = entered_by rest
entered_by (task l s u e own rest) = entered_by rest

-- the labels entered by the tasks of a log, in the order of the records
abbrev pub all_entered : Log → List Label
all_entered nil = []
all_entered (entry t e rest) = all_entered rest
all_entered (sign l t rest) = all_entered rest
all_entered (entered l t d rest) = all_entered rest
all_entered (act l m a rest) = all_entered rest
all_entered (task l s u e own rest) = entered_by own ++ (all_entered own ++ all_entered rest)

-- a job's root task: its label is the job's name
abbrev pub root_label : List ℕ → Label
root_label name = record { name = name; indices = [] }

-- the whole input is the root's part
abbrev pub root_here : Tree → List ℕ → Here
root_here job input =
    record { clock = clock_of job.format; input = input; part = record { from = 0; to = length input }; task = root_label job.name; path = [] }

-- the walk of a job from moment 0, enclosed by no scope
abbrev pub root_walk : Mode → Tree → List ℕ → Result
root_walk mode job input = walk mode job.steps (root_here job input) no_stack (only_at 0)

-- a root's result as a log: the root task alone
abbrev pub root_log : Tree → Result → Log
root_log job r = task (root_label job.name) 0 r.end r.exc r.log nil

-- What limiters and channels grant before a moment: nothing before moment 0; and before the next one, what they grant in a walk by
-- what they granted before. A grant comes a round after what is done to an object, so that walk shows all that there is.
abbrev pub granted_by : Tree → List ℕ → ℕ → Grants
granted_by job input zero = no_grants
granted_by job input (suc m) = grants_before (suc m) (grants_of (root_log job (root_walk (two_walks (granted_by job input m)) job input)))

-- a moment after all that happens in a job
abbrev pub last_moment : ℕ
last_moment = rounds_in_a_tick * (LAST_TICK + 1)

-- what limiters and channels grant in the meaning of a job
unfoldable pub meaning_grants : Tree → List ℕ → Grants
meaning_grants job input = granted_by job input last_moment

-- the meaning of a job over an input
unfoldable pub meaning : Tree → List ℕ → Result
meaning job input = root_walk (two_walks (meaning_grants job input)) job input

-- the records of the meaning
abbrev pub meaning_records : Tree → List ℕ → List Record
meaning_records job input = records_of (clock_of job.format) (root_log job (meaning job input))

-- the tick at which a job's root ends
abbrev pub meaning_end : Tree → List ℕ → ℕ
meaning_end job input = tick_of (clock_of job.format) (meaning job input).end

-- the table of the meaning: from which tick each label is cancelled
abbrev pub meaning_table : Tree → List ℕ → Table
meaning_table job input = table_of (meaning job input).log

-- a label with the tick from which it is cancelled
pub record From : Type 0 where
  pub label : Label
  pub seen : Tick

abbrev pub cancelled_from_by : Table → List Label → List From
cancelled_from_by table [] = []
cancelled_from_by table (l ∷ ls) = record { label = l; seen = table l } ∷ cancelled_from_by table ls

-- from which tick each scope and nursery of a run was cancelled, in the order of records and of entering
abbrev pub meaning_cancelled_from : Tree → List ℕ → List From
meaning_cancelled_from job input = cancelled_from_by (meaning_table job input) (all_entered (root_log job (meaning job input)))
