-- No number is taken twice: on the stack, among the children of the rows that are left, and among the rows that are
-- taken, each occurs at most once.
use Rattle.std.proofs.Common.{◌≡◌, ℕ, zero, suc, ◌+◌, ◌<◌, ◌≤◌, Bool, true, false, cond, List, [], ◌∷◌, ◌++◌, Option, Some, None, length, refl, ap, ◌∙◌, subst, arith}
use Rattle.std.proofs.Math.Dec.{eqb-zero-suc, eqb-suc-suc}
use Rattle.std.proofs.lemmas.Bool.{ne_eqb, false≢true}
use Rattle.std.specs.Prelude.{IsSome, ◌==◌, All, reverse, slice_get, slice_set}
use Rattle.std.specs.List.{count_by}
use Rattle.std.specs.Option.{is_some}
use Rattle.std.proofs.lemmas.List.{length-set}
use Rattle.std.proofs.lemmas.List.Elements.{All-append, All-set, All-head, All-tail, All-weaker, All-nil, All-cons, All-pop}
use Rattle.std.proofs.lemmas.List.Sorted.{IsPermutation-reverse, All-permutation}
use Rattle.std.proofs.lemmas.List.Sums.{sum_by-cons, sum_by-set}
use Rattle.std.proofs.lemmas.Option.{slice_get_within, get_or_from_slice_get}
use Rattle.task_table.specs.declared.rows.TaskRow.{TaskRow}
use Rattle.task_table.specs.declared.rows.Ended.{Ended}
use Rattle.task_table.specs.Rows.{times, times_child, ChildrenAreApart, IsTakenOut}
use Rattle.task_table.proofs.Lists.{at_place}
use Rattle.task_table.proofs.Times.{one_if, one_same, times_append, times_cons, times_push, times_reverse}

-- ---- the children of all rows

-- how often a number is a child of some row, after one row was replaced
pub times_child-set : (c : ℕ) (rows : List TaskRow) (p : ℕ) (row other : TaskRow) → slice_get rows p ≡ Some row →
    times_child c (slice_set rows p other) + times c row.children.items ≡ times_child c rows + times c other.children.items
times_child-set c rows p row other is =
    rw (get_or_from_slice_get rows p row row is)
    at (sum_by-set (λ (r : TaskRow). times c r.children.items) rows p other row (slice_get_within rows p row is))

-- a number that the children of no row can be is none of them
not_among : (k : ℕ) (P : ℕ → Type 0) → (P k → ⊥) → (cs : List ℕ) → All P cs → times k cs ≡ 0
not_among k P never [] all = refl
not_among k P never (c ∷ cs) all =
    let step = times_cons k c cs in
    let other : one_if (c == k) ≡ 0 = ap one_if (ne_eqb c k (λ e. never (subst P e (All-head P c cs all)))) in
    let others = not_among k P never cs (All-tail P c cs all) in
    omega (arith, step, other, others)

-- a number that no child can be is the child of no row
pub no_child : (k : ℕ) (P : ℕ → Type 0) → (P k → ⊥) → (rows : List TaskRow) → All (λ r. All P r.children.items) rows → times_child k rows ≡ 0
no_child k P never [] all = refl
no_child k P never (x ∷ rows) all =
    let Q : TaskRow → Type 0 = λ r. All P r.children.items in
    let step : times_child k (x ∷ rows) ≡ times k x.children.items + times_child k rows =
    sum_by-cons (λ (r : TaskRow). times k r.children.items) x rows in
    let first = not_among k P never x.children.items (All-head Q x rows all) in
    let others = no_child k P never rows (All-tail Q x rows all) in
    omega (arith, step, first, others)

-- ---- rows that are taken

abbrev pub taken_if : Bool → ℕ
taken_if b = cond b 0 1

-- 1 where a row has been taken out, else 0
abbrev pub taken_at : Option TaskRow → ℕ
taken_at None = 0
taken_at (Some r) = taken_if (is_some r.end)

taken_le : (b : Bool) → taken_if b ≤ 1
taken_le true = omega arith
taken_le false = omega arith

-- where a row is replaced, at most one more counts as taken
taken_after : (rows : List TaskRow) (s c : ℕ) (hollow : TaskRow) →
    taken_at (slice_get (slice_set rows s hollow) c) ≤ one_if (s == c) + taken_at (slice_get rows c)
taken_after [] s c hollow = omega arith
taken_after (x ∷ rows) zero zero hollow = omega (arith, taken_le (is_some hollow.end))
taken_after (x ∷ rows) zero (suc c) hollow = omega arith
taken_after (x ∷ rows) (suc s) zero hollow = omega arith
taken_after (x ∷ rows) (suc s) (suc c) hollow =
    let same : one_if (suc s == suc c) ≡ one_if (s == c) = ap one_if (eqb-suc-suc s c) in
    omega (arith, taken_after rows s c hollow)

-- where no row has been taken, none counts as taken
none_taken : (rows : List TaskRow) (c : ℕ) → All (λ r. IsSome r.end) rows → taken_at (slice_get rows c) ≡ 0
none_taken [] c all = refl
none_taken (x ∷ rows) zero all = at (x.end) (All-head (λ (r : TaskRow). IsSome r.end) x rows all)
  where
    at : (e : Option Ended) → IsSome e → taken_if (is_some e) ≡ 0
    at None h = absurd (false≢true h)
    at (Some ended) h = refl
none_taken (x ∷ rows) (suc c) all = none_taken rows c (All-tail (λ (r : TaskRow). IsSome r.end) x rows all)

-- ---- what the loop keeps

-- how often a number occurs on the stack, as a child of a row that is left, and as that of a row that is taken
abbrev pub times_all : ℕ → List TaskRow → List ℕ → ℕ
times_all c rows stack = times c stack + times_child c rows + taken_at (slice_get rows c)

-- what the loop keeps of the rows and its stack, with the initial number of rows
pub record Apart (n : ℕ) (rows : List TaskRow) (stack : List ℕ) : Type 0 where
  pub len : length rows ≡ n
  pub stacked : All (λ c. c < n) stack
  pub within : All (λ r. All (λ c. c < n) r.children.items) rows
  pub once : (c : ℕ) → times_all c rows stack ≤ 1

-- one step of the loop: the place on top of the stack is taken off, its row is taken out, and the row's children are
-- put on the stack
pub record TakesTop (rows after : List TaskRow) (stack grown : List ℕ) : Type 0 where
  pub row_number : ℕ
  pub popped : List ℕ
  pub row : TaskRow
  pub top : stack ≡ popped ++ row_number ∷ []
  pub was : slice_get rows row_number ≡ Some row
  pub out : IsTakenOut rows row_number after
  pub grows : grown ≡ popped ++ reverse row.children.items

-- at first the root alone is on the stack
pub apart_first : (rows : List TaskRow) (stack : List ℕ) → stack ≡ 0 ∷ [] → All (λ r. IsSome r.end) rows → ChildrenAreApart rows →
    Apart (length rows) rows stack
apart_first rows stack is all tree =
    rw is record {
      len = refl;
      stacked = All-cons (λ c. c < length rows) 0 [] tree.root (All-nil (λ c. c < length rows));
      within = All-weaker (λ (r : TaskRow). All (λ c. (0 < c) × (c < length rows)) r.children.items)
          (λ (r : TaskRow). All (λ c. c < length rows) r.children.items)
          (λ r. All-weaker (λ c. (0 < c) × (c < length rows)) (λ c. c < length rows) (λ c both. both.1) r.children.items) rows tree.within;
      once = once;
    }
  where
    root_none : times_child 0 rows ≡ 0
    root_none = no_child 0 (λ c. (0 < c) × (c < length rows)) (λ both. omega (arith, both.0)) rows tree.within

    once : (c : ℕ) → times_all c rows (0 ∷ []) ≤ 1
    once zero =
        let absent = none_taken rows 0 all in
        let one : times 0 (0 ∷ []) ≡ 1 = refl in
        omega (arith, root_none)
    once (suc c) =
        let absent = none_taken rows (suc c) all in
        let root : times (suc c) (0 ∷ []) ≡ 0 + one_if (0 == suc c) = refl in
        let none : one_if (0 == suc c) ≡ 0 = ap one_if (eqb-zero-suc c) in
        let child : times_child (suc c) rows ≤ 1 = tree.once (suc c) in
        omega arith

-- what is on the stack has a row
pub top_within : (n s : ℕ) (rows : List TaskRow) (whole stack : List ℕ) → Apart n rows whole → whole ≡ stack ++ s ∷ [] → s < length rows
top_within n s rows whole stack a is =
    let top : s < n = (All-pop (λ c. c < n) whole stack (Some s) is a.stacked).1 in
    let len : length rows ≡ n = a.len in
    omega arith

-- what is on the stack has not been taken
pub top_has_ended : (n s : ℕ) (rows : List TaskRow) (whole stack : List ℕ) (row : TaskRow) → Apart n rows whole → whole ≡ stack ++ s ∷ [] →
    slice_get rows s ≡ Some row → row.end ≡ None → ⊥
top_has_ended n s rows whole stack row a top is none =
    let a : Apart n rows (stack ++ s ∷ []) = rw top at a in
    let before = times_push s stack s in
    let here = one_same s s refl in
    let taken : taken_at (slice_get rows s) ≡ 1 = ap taken_at is ∙ ap (λ (e : Option Ended). taken_if (is_some e)) none in
    let once : times s (stack ++ s ∷ []) + times_child s rows + taken_at (slice_get rows s) ≤ 1 = a.once s in
    omega (arith, before, here, taken, once)

-- no number occurs more often after a row has been taken out, and its children are on the stack
times_step : (c s : ℕ) (rows : List TaskRow) (stack : List ℕ) (row hollow : TaskRow) → slice_get rows s ≡ Some row → hollow.children.items ≡ [] →
    times_all c (slice_set rows s hollow) (stack ++ reverse row.children.items) ≤ times_all c rows (stack ++ s ∷ [])
times_step c s rows stack row hollow is none =
    let moved = times_child-set c rows s row hollow is in
    let absent : times c hollow.children.items ≡ 0 = ap (times c) none in
    let before = times_push c stack s in
    let after = times_append c stack (reverse row.children.items) in
    let turned = times_reverse c row.children.items in
    let taken = taken_after rows s c hollow in
    omega (arith, moved, absent, before, after, turned, taken)

apart_next : (n s : ℕ) (rows : List TaskRow) (stack : List ℕ) (row hollow : TaskRow) → Apart n rows (stack ++ s ∷ []) →
    slice_get rows s ≡ Some row → hollow.children.items ≡ [] → Apart n (slice_set rows s hollow) (stack ++ reverse row.children.items)
apart_next n s rows stack row hollow a is none =
    let Below : TaskRow → Type 0 = λ r. All (λ c. c < n) r.children.items in
    let left : All (λ c. c < n) stack = (All-pop (λ c. c < n) (stack ++ s ∷ []) stack (Some s) refl a.stacked).0 in
    let theirs : All (λ c. c < n) (reverse row.children.items) =
    All-permutation (λ c. c < n) row.children.items (reverse row.children.items) (IsPermutation-reverse row.children.items)
    (at_place Below rows s row is a.within) in
    record {
      len = length-set rows s hollow ∙ a.len;
      stacked = All-append (λ c. c < n) stack (reverse row.children.items) left theirs;
      within = All-set Below rows s hollow (rw none (All-nil (λ c. c < n))) a.within;
      once = λ c.
          let less = times_step c s rows stack row hollow is none in
          let once : times_all c rows (stack ++ s ∷ []) ≤ 1 = a.once c in
          omega arith;
    }

-- after a step of the loop no number occurs twice still
pub apart_step : {n : ℕ} {rows after : List TaskRow} {stack grown : List ℕ} → Apart n rows stack → TakesTop rows after stack grown →
    Apart n after grown
apart_step {n} {rows} a t =
    rw (t.out.set, t.grows) (apart_next n t.row_number rows t.popped t.row t.out.hollow (rw t.top at a) t.was t.out.childless)

-- ---- how many rows have not been taken

abbrev pub rows_left : List TaskRow → ℕ
rows_left rows = count_by (λ r. is_some r.end) rows

one_less : (s : ℕ) (rows : List TaskRow) (row hollow : TaskRow) (ended : Ended) → slice_get rows s ≡ Some row → row.end ≡ Some ended →
    hollow.end ≡ None → rows_left (slice_set rows s hollow) < rows_left rows
one_less s rows row hollow ended is some none =
    let moved : rows_left (slice_set rows s hollow) + one_if (is_some row.end) ≡ rows_left rows + one_if (is_some hollow.end) =
    rw (get_or_from_slice_get rows s row row is)
    at (sum_by-set (λ (r : TaskRow). one_if (is_some r.end)) rows s hollow row (slice_get_within rows s row is)) in
    let one : one_if (is_some row.end) ≡ 1 = ap (λ (e : Option Ended). one_if (is_some e)) some in
    let absent : one_if (is_some hollow.end) ≡ 0 = ap (λ (e : Option Ended). one_if (is_some e)) none in
    omega (arith, moved, one, absent)

-- it falls with each that is taken
pub fewer_left : {rows after : List TaskRow} {stack grown : List ℕ} (t : TakesTop rows after stack grown) (ended : Ended) →
    t.row.end ≡ Some ended → rows_left after < rows_left rows
fewer_left {rows} t ended some =
    rw t.out.set (one_less t.row_number rows t.row t.out.hollow ended t.was some t.out.endless)
