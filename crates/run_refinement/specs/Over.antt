-- A run that is over: what is kept of its tasks shows rows of the definitions, and these are what the job means.
use Rattle.std.specs.Prelude.{◌≡◌, ℕ, ◌<◌, Some, List, [], ◌∷◌, All, map}
use Rattle.job_tree.specs.Tree.{Tree as Job}
use Rattle.job_meaning.specs.Meaning.{meaning_records, meaning_cancelled_from, meaning_end}
use Rattle.job_meaning.specs.Shown.{as_shown}
use Rattle.task_machine.specs.Noted.{entry_of, from_of, IsSlice}
use Rattle.interleavings.specs.Rows.{Row, records_by, cancelled_from_in, DepthFirst}
use Rattle.run_refinement.specs.RunState.{RunState, EndedTask}

-- what is kept of the task with this serial number, which has ended, shows this row
pub record ShowsRow (input : List ℕ) (state : RunState) (p : ℕ) (row : Row) : Type 0 where
  pub ended_task : EndedTask
  pub is : state.ended_task p ≡ Some ended_task
  pub label : ended_task.label ≡ row.label
  pub start : state.start p ≡ row.start
  pub end : ended_task.end ≡ row.end
  pub exc : ended_task.exc ≡ row.exc
  pub entries : map entry_of ended_task.entries ≡ map (as_shown input) row.entries
  pub slices : All (IsSlice input) ended_task.entries
  pub cancelled_from : map from_of ended_task.cancelled_from ≡ row.cancelled_from
  pub children : state.children p ≡ row.children

-- All m tasks have ended. Their rows, from the root's on and each followed by its descendants, are the records, the moments of
-- cancellation and the end of the meaning.
pub record IsOver (job : Job) (input : List ℕ) (m : ℕ) (state : RunState) : Type 0 where
  pub rows : ℕ → Row
  pub shows : (p : ℕ) → p < m → ShowsRow input state p (rows p)
  pub records : (taken : List ℕ) → DepthFirst rows (0 ∷ []) taken → records_by rows taken ≡ meaning_records job input
  pub cancelled_from : (taken : List ℕ) → DepthFirst rows (0 ∷ []) taken → cancelled_from_in rows taken ≡ meaning_cancelled_from job input
  pub end : (taken : List ℕ) → DepthFirst rows (0 ∷ []) taken → (rows 0).end ≡ meaning_end job input
