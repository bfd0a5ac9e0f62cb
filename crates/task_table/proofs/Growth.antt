-- No row is a child twice while tasks are started and end.
use Rattle.std.proofs.Common.{◌≡◌, ℕ, ◌+◌, ◌<◌, ◌≤◌, inl, inr, List, [], ◌∷◌, ◌++◌, Some, length, refl, ap, arith, ◌∙◌}
use Rattle.std.specs.Prelude.{◌==◌, All, slice_get, slice_set}
use Rattle.std.proofs.lemmas.Bool.Decides.{eqb_tells}
use Rattle.std.proofs.lemmas.List.{length_push, length-set}
use Rattle.std.proofs.lemmas.List.Elements.{All-nil, All-cons, All-push, All-set, All-weaker}
use Rattle.std.proofs.lemmas.List.Sums.{sum_by_push}
use Rattle.task_table.specs.declared.rows.TaskRow.{TaskRow}
use Rattle.task_table.specs.Rows.{times, times_child, ChildrenAreApart}
use Rattle.task_table.proofs.Apart.{no_child, times_child-set}
use Rattle.task_table.proofs.Lists.{at_place}
use Rattle.task_table.proofs.Times.{one_if, times_push}

-- a number that a child of n rows may have
abbrev IsChild : ℕ → ℕ → Type 0
IsChild n c = (0 < c) × (c < n)

-- the children of a row are among those of n rows
abbrev Inside : ℕ → TaskRow → Type 0
Inside n r = All (IsChild n) r.children.items

-- the root's row alone
pub tree_first : (row : TaskRow) → row.children.items ≡ [] → ChildrenAreApart (row ∷ [])
tree_first row none = record {
  root = omega arith;
  within = All-cons (Inside 1) row [] (rw none (All-nil (IsChild 1))) (All-nil (Inside 1));
  once = λ c.
      let it : times_child c (row ∷ []) ≡ times_child c [] + times c row.children.items =
      sum_by_push (λ (r : TaskRow). times c r.children.items) [] row in
      let absent : times c row.children.items ≡ 0 = ap (times c) none in
      let nothing : times_child c [] ≡ 0 = refl in
      omega (arith, it, absent, nothing);
}

-- a row whose children stay the same, as when its task ends
pub tree_same : (rows : List TaskRow) (p : ℕ) (row other : TaskRow) → ChildrenAreApart rows → slice_get rows p ≡ Some row →
    other.children.items ≡ row.children.items → ChildrenAreApart (slice_set rows p other)
tree_same rows p row other tree is same =
    let len = length-set rows p other in
    let its : All (IsChild (length rows)) row.children.items = at_place (Inside (length rows)) rows p row is tree.within in
    record {
      root = rw len tree.root;
      within = rw (← len) at (All-set (Inside (length rows)) rows p other (rw same its) tree.within);
      once = λ c.
          let moved = times_child-set c rows p row other is in
          let stays : times c other.children.items ≡ times c row.children.items = ap (times c) same in
          let before : times_child c rows ≤ 1 = tree.once c in
          omega (arith, moved, stays, before);
    }

-- ---- a task that is started: the next number is added to its parent's children, and its row to the end of all

-- the number of the next row is no child yet
one_more : (rows : List TaskRow) (c : ℕ) → ChildrenAreApart rows → times_child c rows + one_if (length rows == c) ≤ 1
one_more rows c tree =
    elim (eqb_tells (length rows) c) [
      | inl h ↦
          let none : times_child c rows ≡ 0 = rw h.1
          at (no_child (length rows) (IsChild (length rows)) (λ both. omega (arith, both.1)) rows tree.within) in
          let one : one_if (length rows == c) ≡ 1 = ap one_if h.0 in
          omega (arith, none, one)
      | inr h ↦
          let none : one_if (length rows == c) ≡ 0 = ap one_if h.0 in
          let before : times_child c rows ≤ 1 = tree.once c in
          omega (arith, none, before)
    ]

module _ (rows : List TaskRow) (p : ℕ) (parent grown new : TaskRow) (tree : ChildrenAreApart rows) (is : slice_get rows p ≡ Some parent)
    (grows : grown.children.items ≡ parent.children.items ++ length rows ∷ []) (none : new.children.items ≡ []) where
  -- the children of each row are among those of one row more
  wider : (cs : List ℕ) → All (IsChild (length rows)) cs → All (IsChild (length rows + 1)) cs
  wider cs = All-weaker (IsChild (length rows)) (IsChild (length rows + 1)) (λ c both. (both.0, omega (arith, both.1))) cs

  grown_inside : Inside (length rows + 1) grown
  grown_inside =
      rw grows (All-push (IsChild (length rows + 1)) parent.children.items (length rows)
      (wider parent.children.items (at_place (Inside (length rows)) rows p parent is tree.within)) (tree.root, omega arith))

  all_inside : All (Inside (length rows + 1)) (slice_set rows p grown ++ new ∷ [])
  all_inside =
      All-push (Inside (length rows + 1)) (slice_set rows p grown) new
      (All-set (Inside (length rows + 1)) rows p grown grown_inside
      (All-weaker (Inside (length rows)) (Inside (length rows + 1)) (λ r. wider r.children.items) rows tree.within))
      (rw none (All-nil (IsChild (length rows + 1))))

  all_once : (c : ℕ) → times_child c (slice_set rows p grown ++ new ∷ []) ≤ 1
  all_once c =
      let pushed : times_child c (slice_set rows p grown ++ new ∷ [])
      ≡ times_child c (slice_set rows p grown) + times c new.children.items =
      sum_by_push (λ (r : TaskRow). times c r.children.items) (slice_set rows p grown) new in
      let absent : times c new.children.items ≡ 0 = ap (times c) none in
      let moved = times_child-set c rows p parent grown is in
      let one : times c grown.children.items ≡ times c parent.children.items + one_if (length rows == c) =
      rw grows (times_push c parent.children.items (length rows)) in
      let more = one_more rows c tree in
      omega (arith, pushed, absent, moved, one, more)

  pub tree_more : ChildrenAreApart (slice_set rows p grown ++ new ∷ [])
  tree_more =
      let len : length (slice_set rows p grown ++ new ∷ []) ≡ length rows + 1 =
      length_push (slice_set rows p grown) new ∙ ap (λ n. n + 1) (length-set rows p grown) in
      let root : 0 < length rows = tree.root in
      record { root = omega (arith, len, root); within = rw (← len) at all_inside; once = all_once }
