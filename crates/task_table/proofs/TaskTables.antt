-- What rows and ids say once a task is started, has its turn or ends.
use Rattle.std.proofs.Common.{◌≡◌, ◌≢◌, ℕ, ◌+◌, ◌<◌, ◌≤◌, Bool, true, false, List, [], ◌∷◌, ◌++◌, Option, Some, None, length, refl, ap, sym, subst, ◌∙◌, arith, nat_lt}
use Rattle.std.proofs.lemmas.Bool.{ltb-true, ltb-false}
use Rattle.std.specs.Prelude.{slice_get, slice_set}
use Rattle.std.specs.Option.{option_map}
use Rattle.std.proofs.lemmas.List.{length_push, length-set}
use Rattle.std.proofs.lemmas.Option.{none-some, same_Some, slice_get_past, slice_get_within}
use Rattle.exceptions.specs.declared.exc.Exc as held
use Rattle.task_table.specs.declared.live.Live.{Live}
use Rattle.task_table.specs.Live.{live_at, UpdatesLive}
use Rattle.task_machine.specs.declared.task.Task.{Task}
use Rattle.task_machine.specs.Frames.{unboxed_exc}
use Rattle.task_table.specs.declared.rows.TaskRow.{TaskRow}
use Rattle.task_table.specs.declared.rows.Ended.{Ended}
use Rattle.task_table.specs.declared.task_table.Running.{Running}
use Rattle.task_table.specs.declared.task_table.TaskTable.{TaskTable}
use Rattle.task_table.specs.Rows.{ChildrenAreApart, IsNewRow}
use Rattle.task_table.specs.TaskTable.{running_at, row_at, task_count, task_unless, task_by, ended_task_from, ended_task_by, start_by, children_by, parent_by, id_by, task_of, parent_of, HasRow, Lives, IsTaskTable, SameBut, HasRoot, Starts, Ends}
use Rattle.task_table.proofs.Growth.{tree_first, tree_same, tree_more}
use Rattle.task_table.proofs.Inverse.{AreInverse, inverse_same, inverse_added, inverse_removed, other_pair}
use Rattle.task_table.proofs.Lists.{Changes, changes_set, changes_push, kept, set_same}

-- ---- the row of an id, and the id of a row

abbrev row_under : Option Running → Option ℕ
row_under o = option_map (λ (x : Running). x.row) o

-- the row of the task with an id
abbrev row_of_id : TaskTable → ℕ → Option ℕ
row_of_id r id = row_under (running_at r id)

abbrev id_unless : Option Ended → ℕ → Option ℕ
id_unless None id = Some id
id_unless (Some e) id = None

abbrev living_id : Option TaskRow → Option ℕ
living_id None = None
living_id (Some row) = id_unless row.end row.task

-- the id of the task of a row that has not ended
abbrev id_of_row : TaskTable → ℕ → Option ℕ
id_of_row r p = living_id (row_at r p)

row_read : (o : Option Running) (p : ℕ) → row_under o ≡ Some p → (x : Running) × (o ≡ Some x) × (x.row ≡ p)
row_read None p e = absurd (none-some p e)
row_read (Some x) p e = (x, refl, same_Some x.row p e)

id_read : (o : Option TaskRow) (id : ℕ) → living_id o ≡ Some id → (row : TaskRow) × (o ≡ Some row) × (row.end ≡ None) × (row.task ≡ id)
id_read None id e = absurd (none-some id e)
id_read (Some row) id e = by_end row.end refl
  where
    by_end : (end : Option Ended) → row.end ≡ end → (z : TaskRow) × (Some row ≡ Some z) × (z.end ≡ None) × (z.task ≡ id)
    by_end None f = (row, refl, f, same_Some row.task id (rw f at e))
    by_end (Some end) f = absurd (none-some id (rw f at e))

id_here : (o : Option TaskRow) (row : TaskRow) (id : ℕ) → o ≡ Some row → row.end ≡ None → row.task ≡ id → living_id o ≡ Some id
id_here o row id is none same = rw (is, none, same) refl

-- rows and ids agree just where the two maps are inverse to each other
inverse_of : (r : TaskTable) → IsTaskTable r → AreInverse (row_of_id r) (id_of_row r)
inverse_of r ok = record {
  there = λ id p e.
      let x = row_read (running_at r id) p e in
      let h : HasRow r x.0.row id = ok.rows id x.0 x.1 in
      ap (id_of_row r) (sym x.2) ∙ id_here (row_at r x.0.row) h.row id h.is h.endless h.id_is;
  back = λ p id e.
      let z = id_read (row_at r p) id e in
      let l : Lives r p z.0 = ok.lives p z.0 z.1 z.2 in
      ap (row_of_id r) (sym z.3) ∙ ap row_under l.is ∙ ap Some l.row_is;
}

table_of : (r : TaskTable) → AreInverse (row_of_id r) (id_of_row r) → ChildrenAreApart r.rows.items →
    ((p : ℕ) → 0 < p → p < task_count r → parent_of r p < p) → IsTaskTable r
table_of r h tree earlier = record {
  rows = λ id x is.
      let z = id_read (row_at r x.row) id (h.there id x.row (ap row_under is)) in
      record { row = z.0; is = z.1; endless = z.2; id_is = z.3 };
  lives = λ p row is none.
      let x = row_read (running_at r row.task) p (h.back p row.task (id_here (row_at r p) row row.task is none refl)) in
      record { running = x.0; is = x.1; row_is = x.2 };
  tree = tree;
  earlier = earlier;
}

-- the row of a task that lives is there
pub within : (r : TaskTable) (id : ℕ) (x : Running) → IsTaskTable r → running_at r id ≡ Some x → x.row < task_count r
within r id x ok lived = let h : HasRow r x.row id = ok.rows id x lived in slice_get_within r.rows.items x.row h.row h.is

-- ---- the task of a row

-- the task of a row that has not ended
task_here : (live : Live Running) (o : Option TaskRow) (row : TaskRow) (x : Running) → o ≡ Some row → row.end ≡ None →
    live_at live row.task ≡ Some x → task_by live o ≡ Some x.task
task_here live o row x is none lives = rw (is, none, lives) refl

-- it stays where what lives under its id does
task_kept : (old new : Live Running) (o : Option TaskRow) → ((id : ℕ) → living_id o ≡ Some id → live_at new id ≡ live_at old id) →
    task_by new o ≡ task_by old o
task_kept old new None same = refl
task_kept old new (Some row) same = by_end row.end (same row.task)
  where
    by_end : (end : Option Ended) → (id_unless end row.task ≡ Some row.task → live_at new row.task ≡ live_at old row.task) →
        task_unless end (live_at new row.task) ≡ task_unless end (live_at old row.task)
    by_end None kept = rw (kept refl) refl
    by_end (Some ended) kept = refl

-- ---- a task that is started

-- what the code does to start a task: a row gets one child more, and the next row is that of the new task
pub record Adds (old new : TaskTable) (p : ℕ) (child : Task) (tick id : ℕ) : Type 0 where
  pub fresh : running_at old id ≡ None
  pub live : UpdatesLive old.live new.live id (Some (record { task = child; row = task_count old }))
  pub before : TaskRow
  pub grown : TaskRow
  pub row : TaskRow
  pub was : row_at old p ≡ Some before
  pub same : grown ≡ record before { children = grown.children }
  pub child_is : grown.children.items ≡ before.children.items ++ task_count old ∷ []
  pub begins : IsNewRow p id tick row
  pub rows : new.rows.items ≡ slice_set old.rows.items p grown ++ row ∷ []

module _ {old new : TaskTable} {p : ℕ} {child : Task} {tick id : ℕ} (ok : IsTaskTable old) (a : Adds old new p child tick id) where
  abbrev middle : List TaskRow
  middle = slice_set old.rows.items p a.grown

  parent_changes : Changes (slice_get old.rows.items) (slice_get middle) p (Some a.before) (Some a.grown)
  parent_changes = changes_set old.rows.items p a.before a.grown a.was

  next_changes : Changes (slice_get middle) (slice_get new.rows.items) (task_count old) None (Some a.row)
  next_changes = rw (a.rows, ← length-set old.rows.items p a.grown) (changes_push middle a.row)

  -- what is said of each row, where one more child changes nothing
  said_before : {A : Type 0} (f : Option TaskRow → A) → f (Some a.grown) ≡ f (Some a.before) → (j : ℕ) →
      f (slice_get middle j) ≡ f (row_at old j)
  said_before f same j = kept parent_changes f same j

  old_row : (j : ℕ) → j < task_count old → row_at new j ≡ slice_get middle j
  old_row j less = next_changes.others j (λ e. omega (arith, e, less))

  said_still : {A : Type 0} (f : Option TaskRow → A) → f (Some a.grown) ≡ f (Some a.before) → (j : ℕ) → j < task_count old →
      f (row_at new j) ≡ f (row_at old j)
  said_still f same j less = ap f (old_row j less) ∙ said_before f same j

  parent_now : row_at new p ≡ Some a.grown
  parent_now = old_row p (slice_get_within old.rows.items p a.before a.was) ∙ parent_changes.is

  same_id : living_id (Some a.grown) ≡ living_id (Some a.before)
  same_id = rw a.same refl

  -- a row that was there has another id
  another : (j other : ℕ) → id_of_row old j ≡ Some other → other ≢ id
  another j other is =
      other_pair id other j (inverse_of old ok)
      (λ e. none-some j (sym (ap row_under a.fresh) ∙ e)) is

  -- so a task was started: it has the next row, and an id under which nothing lived
  pub starts : Starts old new p child tick id
  starts = record {
    fresh = a.fresh;
    lives = a.live.changed;
    others = a.live.others;
    more = ap length a.rows ∙ length_push middle a.row ∙ ap (λ n. n + 1) (length-set old.rows.items p a.grown);
    task = task_here new.live (row_at new (task_count old)) a.row _ next_changes.is a.begins.end
        (ap (live_at new.live) a.begins.task ∙ a.live.changed);
    start = ap start_by next_changes.is ∙ a.begins.start;
    childless = ap children_by next_changes.is ∙ a.begins.children;
    parent_is = ap parent_by next_changes.is ∙ a.begins.parent;
    id_is = ap id_by next_changes.is ∙ a.begins.task;
    child = ap children_by parent_now ∙ a.child_is ∙ sym (ap (λ (o : Option TaskRow). children_by o ++ task_count old ∷ []) a.was);
    same_task = λ j less.
        said_still (task_by new.live) (rw a.same refl) j less
        ∙ task_kept old.live new.live (row_at old j) (λ other is. a.live.others other (another j other is));
    same_ended_task = λ j.
        kept next_changes ended_task_by (ap (option_map ended_task_from) a.begins.end) j
        ∙ said_before ended_task_by (rw a.same refl) j;
    same_start = said_still start_by (rw a.same refl);
    same_children = λ j less differs. ap children_by (old_row j less ∙ parent_changes.others j differs);
    same_parent = said_still parent_by (rw a.same refl);
    same_id = said_still id_by (rw a.same refl);
  }

  -- rows and ids agree still
  pub agrees_started : IsTaskTable new
  agrees_started =
      table_of new
      (inverse_added (inverse_of old ok)
      (record {
        was = ap row_under a.fresh;
        is = ap row_under a.live.changed;
        others = λ other differs. ap row_under (a.live.others other differs);
      })
      (record {
        was = ap living_id (slice_get_past old.rows.items (task_count old) (omega arith));
        is = id_here (row_at new (task_count old)) a.row id next_changes.is a.begins.end a.begins.task;
        others = λ j differs. ap living_id (next_changes.others j differs) ∙ said_before living_id same_id j;
      }))
      (rw a.rows (tree_more old.rows.items p a.before a.grown a.row ok.tree a.was a.child_is a.begins.children))
      earlier_started
    where
      of_order : (j : ℕ) → 0 < j → j < task_count new → (b : Bool) → nat_lt j (task_count old) ≡ b → parent_of new j < j
      of_order j some less true e =
          let below : j < task_count old = ltb-true j (task_count old) e in
          subst (λ (n : ℕ). n < j) (sym (starts.same_parent j below)) (ok.earlier j some below)
      of_order j some less false e =
          let above : task_count old ≤ j = ltb-false j (task_count old) e in
          let last : j ≡ task_count old = omega (arith, starts.more) in
          let parent : parent_of new j ≡ p = ap (parent_of new) last ∙ starts.parent_is in
          let below : p < task_count old = slice_get_within old.rows.items p a.before a.was in
          omega arith

      earlier_started : (j : ℕ) → 0 < j → j < task_count new → parent_of new j < j
      earlier_started j some less = of_order j some less (nat_lt j (task_count old)) refl

-- ---- a task that has its turn or ends

-- what is under the id of a task that lives was written, and the row of that task
pub record Writes (old new : TaskTable) (id : ℕ) (x : Running) (y : Option Running) (before after : TaskRow) : Type 0 where
  pub lived : running_at old id ≡ Some x
  pub live : UpdatesLive old.live new.live id y
  pub was : row_at old x.row ≡ Some before
  pub same : after ≡ record before { end = after.end }
  pub rows : new.rows.items ≡ slice_set old.rows.items x.row after

module _ {old new : TaskTable} {id : ℕ} {x : Running} {y : Option Running} {before after : TaskRow} (ok : IsTaskTable old)
    (w : Writes old new id x y before after) where
  row_changes : Changes (slice_get old.rows.items) (slice_get new.rows.items) x.row (Some before) (Some after)
  row_changes = rw w.rows (changes_set old.rows.items x.row before after w.was)

  live_changes : Changes (running_at old) (running_at new) id (Some x) y
  live_changes = record { was = w.lived; is = w.live.changed; others = w.live.others }

  said_alike : {A : Type 0} (f : Option TaskRow → A) → f (Some after) ≡ f (Some before) → (j : ℕ) → f (row_at new j) ≡ f (row_at old j)
  said_alike f same j = kept row_changes f same j

  id_was : id_of_row old x.row ≡ Some id
  id_was = (inverse_of old ok).there id x.row (ap row_under w.lived)

  -- another row has another id
  different : (j other : ℕ) → j ≢ x.row → id_of_row old j ≡ Some other → other ≢ id
  different j other differs is =
      other_pair id other j (inverse_of old ok)
      (λ e. differs (same_Some j x.row (sym e ∙ ap row_under w.lived))) is

  -- no other task changes, and no start, child, parent or id of any
  same_but : SameBut old new x.row
  same_but = record {
    many = ap length w.rows ∙ length-set old.rows.items x.row after;
    task = λ j differs.
        ap (task_by new.live) (row_changes.others j differs)
        ∙ task_kept old.live new.live (row_at old j) (λ other is. w.live.others other (different j other differs is));
    ended_task = λ j differs. ap ended_task_by (row_changes.others j differs);
    start = said_alike start_by (rw w.same refl);
    children = said_alike children_by (rw w.same refl);
    parent = said_alike parent_by (rw w.same refl);
    id = said_alike id_by (rw w.same refl);
  }

  still_apart : ChildrenAreApart new.rows.items
  still_apart = rw w.rows (tree_same old.rows.items x.row before after ok.tree w.was (rw w.same refl))

  still_earlier : (j : ℕ) → 0 < j → j < task_count new → parent_of new j < j
  still_earlier j some less =
      subst (λ (n : ℕ). n < j) (sym (same_but.parent j)) (ok.earlier j some (subst (λ (n : ℕ). j < n) same_but.many less))

-- ---- a turn

module _ (old new : TaskTable) (id : ℕ) (x y : Running) (ok : IsTaskTable old) (lived : running_at old id ≡ Some x)
    (live : UpdatesLive old.live new.live id (Some y)) (row : y.row ≡ x.row) (rows : new.rows.items ≡ old.rows.items) where
  abbrev its_row : TaskRow
  its_row = (ok.rows id x lived).row

  turn_writes : Writes old new id x (Some y) its_row its_row
  turn_writes = record {
    lived = lived;
    live = live;
    was = (ok.rows id x lived).is;
    same = refl;
    rows = rows ∙ sym (set_same old.rows.items x.row its_row (ok.rows id x lived).is);
  }

  -- a turn changes no other task, and no start, child, parent or id of any
  pub turned_same : SameBut old new x.row
  turned_same = same_but ok turn_writes

  -- the row of that task has it as the turn left it
  pub turned_task : task_of new x.row ≡ Some y.task
  turned_task =
      let h : HasRow old x.row id = ok.rows id x lived in
      task_here new.live (row_at new x.row) h.row y (ap (λ (xs : List TaskRow). slice_get xs x.row) rows ∙ h.is) h.endless
      (ap (live_at new.live) h.id_is ∙ live.changed)

  -- rows and ids agree still after a turn
  pub agrees_turned : IsTaskTable new
  agrees_turned =
      table_of new
      (inverse_same (inverse_of old ok)
      (kept (live_changes ok turn_writes)
      row_under (ap Some row))
      (said_alike ok turn_writes living_id refl))
      (still_apart ok turn_writes)
      (still_earlier ok turn_writes)

-- ---- an end

-- what the code does to end a task: nothing is under its id, and its row keeps what is left of it
pub record Closes (old new : TaskTable) (id tick : ℕ) (exc : Option held.Exc) (x : Running) : Type 0 where
  pub before : TaskRow
  pub ended : Ended
  pub writes : Writes old new id x None before (record before { end = Some ended })
  pub label : ended.label ≡ x.task.label
  pub tick_is : ended.tick ≡ tick
  pub exc_is : unboxed_exc ended.exc ≡ exc
  pub entries : ended.entries.items ≡ x.task.entries.items
  pub cancelled_from : ended.cancelled_from.items ≡ x.task.cancelled_from.items

module _ {old new : TaskTable} {id tick : ℕ} {exc : Option held.Exc} {x : Running} (ok : IsTaskTable old) (c : Closes old new id tick exc x) where
  abbrev after_end : TaskRow
  after_end = record c.before { end = Some c.ended }

  end_changes : Changes (slice_get old.rows.items) (slice_get new.rows.items) x.row (Some c.before) (Some after_end)
  end_changes = row_changes ok c.writes

  -- so the task has ended: nothing lives under its id, and its row keeps what is left of it
  pub ends : Ends old new id tick exc
  ends = record {
    row = x.row;
    task = x.task;
    lived = c.writes.lived;
    removed = c.writes.live.changed;
    others = c.writes.live.others;
    left = ap (task_by new.live) end_changes.is;
    kept = ap ended_task_by end_changes.is ∙ rw (c.label, c.tick_is, c.exc_is, c.entries, c.cancelled_from) refl;
    same = same_but ok c.writes;
  }

  -- rows and ids agree still once a task has ended
  pub agrees_ended : IsTaskTable new
  agrees_ended =
      table_of new
      (inverse_removed (inverse_of old ok)
      (record {
        was = ap row_under c.writes.lived;
        is = ap row_under c.writes.live.changed;
        others = λ other differs. ap row_under (c.writes.live.others other differs);
      })
      (record {
        was = id_was ok c.writes;
        is = ap living_id end_changes.is;
        others = λ j differs. ap living_id (end_changes.others j differs);
      }))
      (still_apart ok c.writes)
      (still_earlier ok c.writes)

-- ---- the root

-- what the code does to begin with the root
pub record First (r : TaskTable) (root : Task) (id : ℕ) : Type 0 where
  pub none : Live Running
  pub nothing : (key : ℕ) → live_at none key ≡ None
  pub live : UpdatesLive none r.live id (Some (record { task = root; row = 0 }))
  pub row : TaskRow
  pub begins : IsNewRow 0 id 0 row
  pub rows : r.rows.items ≡ row ∷ []

module _ {r : TaskTable} {root : Task} {id : ℕ} (f : First r root id) where
  first_changes : Changes (λ (j : ℕ). None) (slice_get r.rows.items) 0 None (Some f.row)
  first_changes = rw f.rows (changes_push [] f.row)

  first_others : (other : ℕ) → other ≢ id → running_at r other ≡ None
  first_others other differs = f.live.others other differs ∙ f.nothing other

  -- so the root is alone, in the first row, in tick 0
  pub has_root : HasRoot r root id
  has_root = record {
    many = ap length f.rows;
    lives = f.live.changed;
    others = first_others;
    task = task_here r.live (row_at r 0) f.row _ first_changes.is f.begins.end (ap (live_at r.live) f.begins.task ∙ f.live.changed);
    none = λ j. ap (task_by r.live) (first_changes.others (j + 1) (λ e. omega (arith, e)));
    ended_task = kept first_changes ended_task_by (ap (option_map ended_task_from) f.begins.end);
    start = ap start_by first_changes.is ∙ f.begins.start;
    children = ap children_by first_changes.is ∙ f.begins.children;
  }

  -- and its row and its id agree
  pub agrees_first : IsTaskTable r
  agrees_first =
      table_of r
      (inverse_added
      (record { there = λ i p e. absurd (none-some p e); back = λ p i e. absurd (none-some i e) })
      (record {
        was = refl;
        is = ap row_under f.live.changed;
        others = λ other differs. ap row_under (first_others other differs);
      })
      (record {
        was = refl;
        is = id_here (row_at r 0) f.row id first_changes.is f.begins.end f.begins.task;
        others = λ j differs. ap living_id (first_changes.others j differs);
      }))
      (rw f.rows (tree_first f.row f.begins.children))
      (λ j some less. let one : task_count r ≡ 1 = ap length f.rows in absurd (omega arith))
