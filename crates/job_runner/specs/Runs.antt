-- What clauses state about a run.
use Rattle.std.specs.Prelude.{◌≡◌, ℕ, ◌<◌, Bool, true, false, List, [], ◌∷◌, map}
use Rattle.job_tree.specs.Tree.{Tree}
use Rattle.job_meaning.specs.Moments.{clock_of}
use Rattle.job_meaning.specs.Meaning.{From, root_log, records_of, all_entered, cancelled_from_by, meaning_end, meaning_cancelled_from, meaning_grants}
use Rattle.job_meaning.specs.GrantTable.{AreGrantsOf, grants_made}
use Rattle.job_meaning.specs.Sharing.{Grants}
use Rattle.job_meaning.specs.declared.grant_table.GrantTable.{GrantTable}
use Rattle.job_meaning.specs.Follow.{follow}
use Rattle.turn_semantics.specs.Midway.{Tables}
use Rattle.interleavings.specs.Laws.{IsSettledBy}
use Rattle.job_meaning.specs.Shown.{Row, Ending, well, by_cancellation, with_exception, row_of, meaning_rows}
use Rattle.task_table.specs.declared.record.Record.{Record}
use Rattle.task_machine.specs.declared.entry.ScopeFrom.{ScopeFrom}
use Rattle.task_machine.specs.Noted.{from_of}
use Rattle.task_table.specs.Records.{row_in, AreSlices}
use Rattle.job_runner.specs.declared.finished.Run.{Run}
use Rattle.job_runner.specs.declared.fault.RunFault.{RunFault}
use Rattle.job_runner.specs.declared.fault.RunFault.TheVariants.{Limit, NoMemory}

abbrev pub name_of : Run → List ℕ
name_of run = run.name

abbrev pub records_in : Run → List Record
records_in run = run.records.items

-- the records as they are shown
abbrev pub rows_of : Run → List Row
rows_of run = map row_in (records_in run)

-- whether the root, whose row is the first, ended without an exception
abbrev pub is_well : Ending → Bool
is_well well = true
is_well by_cancellation = false
is_well (with_exception e) = false

abbrev pub root_is_well : List Row → Bool
root_is_well [] = true
root_is_well (r ∷ rs) = is_well r.ending

-- the tick in which it ended
abbrev pub root_end : List Row → ℕ
root_end [] = 0
root_end (r ∷ rs) = r.end

abbrev pub cancelled_from_in : Run → List ScopeFrom
cancelled_from_in run = run.cancelled_from.items

-- what the limiters and channels granted
abbrev pub granted_in : Run → GrantTable
granted_in run = run.grants

abbrev pub grants_of : Run → Grants
grants_of run = grants_made run.grants

abbrev pub turns_of : Run → ℕ
turns_of run = run.turns

-- the scopes and nurseries with the ticks from which they were cancelled
abbrev pub scopes_cancelled_from_of : Run → List From
scopes_cancelled_from_of run = map from_of (cancelled_from_in run)

-- the run of a job over an input is that of its meaning
pub record IsRun (job : Tree) (input : List ℕ) (run : Run) : Type 0 where
  pub name : name_of run ≡ job.name
  pub rows : rows_of run ≡ meaning_rows job input
  pub slices : AreSlices input (records_in run)
  pub cancelled_from : scopes_cancelled_from_of run ≡ meaning_cancelled_from job input
  pub granted : grants_of run ≡ meaning_grants job input
  pub lent : AreGrantsOf input (granted_in run)

-- And it is the result of following tables: its records, and the moments of cancellation in the first table.
pub record IsFollowed (k : Tables) (job : Tree) (input : List ℕ) (run : Run) : Type 0 where
  pub rows : rows_of run ≡ map (row_of input) (records_of (clock_of job.format) (root_log job (follow k.cancelled_from k.granted job input)))
  pub cancelled_from :
      scopes_cancelled_from_of run
      ≡ cancelled_from_by k.cancelled_from (all_entered (root_log job (follow k.cancelled_from k.granted job input)))

-- for any settled tables
abbrev pub FollowsEach : Tree → List ℕ → Run → Type 0
FollowsEach job input run = (k : Tables) → IsSettledBy k job input → IsFollowed k job input run

-- `Limit` is returned if the meaning ends later
abbrev pub IsLate : Tree → List ℕ → ℕ → RunFault → Type 0
IsLate job input limit (Limit l) = (l ≡ limit) × (limit < meaning_end job input)
IsLate job input limit NoMemory = Unit {0}
