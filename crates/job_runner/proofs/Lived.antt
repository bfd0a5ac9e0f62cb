-- What lives, by its row and by its id.
use Rattle.std.proofs.Common.{◌≡◌, ◌≢◌, ℕ, ◌<◌, Option, Some, None, refl, ap, sym, ◌∙◌}
use Rattle.std.proofs.lemmas.Option.{none-some, same_Some, slice_get_within}
use Rattle.task_machine.specs.declared.task.Task.{Task}
use Rattle.task_table.specs.declared.task_table.TaskTable.{TaskTable}
use Rattle.task_table.specs.declared.task_table.Running.{Running}
use Rattle.task_table.specs.declared.rows.Ended.{Ended}
use Rattle.task_table.specs.declared.rows.TaskRow.{TaskRow}
use Rattle.task_table.specs.TaskTable.{row_at, running_at, task_by, id_by, task_of, id_of, task_count, HasRow, Lives, IsTaskTable}

-- ---- what lives, by its row

-- the task of a row that has not ended lives under the id of the row
pub record LivesBy (r : TaskTable) (p : ℕ) (task : Task) : Type 0 where
  pub running : Running
  pub is : running_at r (id_of r p) ≡ Some running
  pub task_is : running.task ≡ task
  pub row_is : running.row ≡ p
  pub below : p < task_count r

-- the task of a row that has not ended lives under the id of the row
pub lives_by : (r : TaskTable) → IsTaskTable r → (p : ℕ) (task : Task) → task_of r p ≡ Some task → LivesBy r p task
lives_by r ok p task e = by_row (row_at r p) refl e
  where
    by_end : (row : TaskRow) → row_at r p ≡ Some row → (end : Option Ended) → row.end ≡ end → task_by r.live (Some row) ≡ Some task →
        LivesBy r p task
    by_end row at (Some x) ends f = absurd (none-some task (rw ends at f))
    by_end row at None ends f =
        let l : Lives r p row = ok.lives p row at ends in
        record {
          running = l.running;
          is = ap (running_at r) (ap id_by at) ∙ l.is;
          task_is = same_Some l.running.task task (rw (ends, l.is) at f);
          row_is = l.row_is;
          below = slice_get_within r.rows.items p row at;
        }

    by_row : (o : Option TaskRow) → row_at r p ≡ o → task_by r.live o ≡ Some task → LivesBy r p task
    by_row None at f = absurd (none-some task f)
    by_row (Some row) at f = by_end row at row.end refl f

-- ---- what has which row

-- the task of a row, by its id
pub task_at : (r : TaskTable) → IsTaskTable r → (id : ℕ) (x : Running) → running_at r id ≡ Some x → task_of r x.row ≡ Some x.task
task_at r agree id x lives =
    let h : HasRow r x.row id = agree.rows id x lives in
    rw (h.is, h.endless, h.id_is, lives) refl

-- the task with an id has one of the table's rows
pub row_below : (r : TaskTable) → IsTaskTable r → (id : ℕ) (x : Running) → running_at r id ≡ Some x → x.row < task_count r
row_below r agree id x lives = let h : HasRow r x.row id = agree.rows id x lives in slice_get_within r.rows.items x.row h.row h.is

-- two ids of one row are the same
pub one_id : (r : TaskTable) → IsTaskTable r → (id other : ℕ) (x y : Running) → running_at r id ≡ Some x → running_at r other ≡ Some y →
    y.row ≡ x.row → other ≡ id
one_id r agree id other x y e f same =
    let h : HasRow r x.row id = agree.rows id x e in
    let g : HasRow r y.row other = agree.rows other y f in
    let one : g.row ≡ h.row = same_Some g.row h.row (sym g.is ∙ (ap (row_at r) same ∙ h.is)) in
    sym g.id_is ∙ (ap (λ (z : TaskRow). z.task) one ∙ h.id_is)

-- what lives under different ids has different rows
pub rows_apart : (r : TaskTable) → IsTaskTable r → (id other : ℕ) (x y : Running) → running_at r id ≡ Some x → running_at r other ≡ Some y →
    other ≢ id → y.row ≢ x.row
rows_apart r agree id other x y e f differs same = differs (one_id r agree id other x y e f same)

-- and the id of its row is its own
pub id_at : (r : TaskTable) → IsTaskTable r → (id : ℕ) (x : Running) → running_at r id ≡ Some x → id_of r x.row ≡ id
id_at r ok id x e = let h : HasRow r x.row id = ok.rows id x e in ap id_by h.is ∙ h.id_is
