-- The table of a run.
use Rattle.std.proofs.Common.{◌≡◌, ℕ, None, List, map, ap, ◌∙◌}
use std.Path.{fun_ext}
use Rattle.exceptions.specs.Exceptions.{Label}
use Rattle.job_tree.specs.Tree.{Tree}
use Rattle.job_meaning.specs.Log.{Table}
use Rattle.job_meaning.specs.Meaning.{From, meaning_cancelled_from, meaning_table}
use Rattle.task_machine.specs.declared.entry.ScopeFrom.{ScopeFrom}
use Rattle.task_machine.specs.Noted.{from_of}
use Rattle.job_runner.specs.declared.finished.Run.{Run}
use Rattle.job_runner.specs.Runs.{cancelled_from_in, scopes_cancelled_from_of}
use Rattle.job_story.specs.CancelledFrom.{never, set_in}
use Rattle.job_story.specs.Laws.{CancelledFromGivesTheTable}

-- what is set in the empty table
pub from_never : (first last : Table) (fs gs : List From) → ((l : Label) → first l ≡ None) → fs ≡ gs →
    ((l : Label) → last l ≡ set_in first fs l) → (l : Label) → last l ≡ set_in never gs l
from_never first last fs gs none same is l =
    is l ∙ ap (λ (t : Table). set_in t fs l) (fun_ext none) ∙ ap (λ (xs : List From). set_in never xs l) same

-- is the table of the meaning, where it is the list of a run whose moments are those of the meaning
pub is_of_meaning : (table : Table) (froms : List ScopeFrom) (run : Run) (job : Tree) (input : List ℕ) → CancelledFromGivesTheTable →
    froms ≡ cancelled_from_in run → scopes_cancelled_from_of run ≡ meaning_cancelled_from job input →
    ((l : Label) → table l ≡ set_in never (map from_of froms) l) → table ≡ meaning_table job input
is_of_meaning table froms run job input law listed same is =
    fun_ext (λ (l : Label). is l ∙ ap (λ (xs : List From). set_in never xs l) (ap (map from_of) listed ∙ same)) ∙ law job input
