-- What is granted to the task of a row, by its id.
use Rattle.std.proofs.Common.{◌≡◌, ◌≢◌, inl, inr, ℕ, zero, suc, ◌<◌, Bool, Option, Some, None, List, ◌∷◌, ◌++◌, [], refl, ap, sym, ◌∙◌, arith}
use Rattle.std.specs.Prelude.{◌⊎◌}
use Rattle.std.proofs.lemmas.Bool.{cases_eq, eq-eqb, ne_eqb}
use Rattle.std.proofs.lemmas.Option.{none-some, same_Some}
use Rattle.task_table.specs.declared.entry.Call.{Call}
use Rattle.task_table.specs.declared.task_table.Running.{Running}
use Rattle.task_table.specs.declared.task_table.TaskTable.{TaskTable}
use Rattle.task_table.specs.Entries.{Added}
use Rattle.task_table.specs.TaskTable.{running_at, id_of, path_by, IsTaskTable}
use Rattle.job_runner.specs.Shared.{what_of, what_if, what_or, granted_among, granted_if, granted_of}
use Rattle.job_runner.proofs.Granted.{or_none}
use Rattle.job_runner.proofs.Lived.{id_at}

-- ---- rows

-- a task that has not ended has this row
abbrev pub HasRowNow : TaskTable → ℕ → Type 0
HasRowNow r p = (key : ℕ) × (y : Running) × (running_at r key ≡ Some y) × (y.row ≡ p)

-- one has, or none
pub has_row_now : (r : TaskTable) → IsTaskTable r → (p : ℕ) → HasRowNow r p ⊎ (HasRowNow r p → ⊥)
has_row_now r agree p = by_running (running_at r (id_of r p)) refl
  where
    by_row : (y : Running) → running_at r (id_of r p) ≡ Some y → (y.row ≡ p) ⊎ (y.row ≢ p) → HasRowNow r p ⊎ (HasRowNow r p → ⊥)
    by_row y e (inl at) = inl (id_of r p, y, e, at)
    by_row y e (inr differs) = inr (λ h.
        let its : id_of r p ≡ h.0 = ap (id_of r) (sym h.3) ∙ id_at r agree h.0 h.1 h.2 in
        let same : y ≡ h.1 = same_Some y h.1 (sym e ∙ (ap (running_at r) its ∙ h.2)) in
        differs (ap (λ (x : Running). x.row) same ∙ h.3))

    by_running : (o : Option Running) → running_at r (id_of r p) ≡ o → HasRowNow r p ⊎ (HasRowNow r p → ⊥)
    by_running None e = inr (λ h.
        let its : id_of r p ≡ h.0 = ap (id_of r) (sym h.3) ∙ id_at r agree h.0 h.1 h.2 in
        none-some h.1 (sym e ∙ (ap (running_at r) its ∙ h.2)))
    by_running (Some y) e = by_row y e (cases_eq y.row p)

-- ---- what is granted

-- what is granted to it is that of its id
pub granted_row : (r : TaskTable) → IsTaskTable r → (calls : List Added) (p key : ℕ) (y : Running) → running_at r key ≡ Some y → y.row ≡ p →
    granted_of r calls p ≡ granted_among key calls
granted_row r agree calls p key y lives at =
    ap (granted_of r calls) (sym at)
    ∙ ap (λ (i : ℕ). granted_if i calls y.row (running_at r i)) (id_at r agree key y lives)
    ∙ ap (granted_if key calls y.row) lives
    ∙ ap (λ (b : Bool). what_if b (granted_among key calls)) (eq-eqb y.row y.row refl)

-- and where none has the row, nothing is granted
pub granted_nobody : (r : TaskTable) (calls : List Added) (p : ℕ) → (HasRowNow r p → ⊥) → granted_of r calls p ≡ None
granted_nobody r calls p nobody = by_running (running_at r (id_of r p)) refl
  where
    by_running : (o : Option Running) → running_at r (id_of r p) ≡ o → granted_if (id_of r p) calls p o ≡ None
    by_running None e = refl
    by_running (Some y) e =
        ap (λ (b : Bool). what_if b (granted_among (id_of r p) calls)) (ne_eqb y.row p (λ at. nobody (id_of r p, y, e, at)))

-- to a task that no other call grants anything, its own does
pub among_own : (id : ℕ) (call : Call) (calls : List Added) → granted_among id calls ≡ None →
    granted_among id ((id, call) ∷ calls) ≡ what_of call
among_own id call calls none =
    ap (λ (b : Bool). what_or (what_if b (what_of call)) (granted_among id calls)) (eq-eqb id id refl)
    ∙ ap (what_or (what_of call)) none ∙ or_none (what_of call)

-- and to another task it grants nothing
pub among_else : (id key : ℕ) (call : Call) (calls : List Added) → key ≢ id →
    granted_among key ((id, call) ∷ calls) ≡ granted_among key calls
among_else id key call calls differs =
    ap (λ (b : Bool). what_or (what_if b (what_of call)) (granted_among key calls)) (ne_eqb id key (λ e. differs (sym e)))

-- ---- the rows from the root's to one

-- they are the same where the tasks of these rows were started by the same tasks, each of an earlier row
pub path_as : (n p m : ℕ) (old new : ℕ → ℕ) → ((q : ℕ) → q < m → new q ≡ old q) → ((q : ℕ) → 0 < q → q < m → old q < q) → p < m →
    path_by n new p ≡ path_by n old p
path_as zero p m old new same earlier less = refl
path_as (suc n) zero m old new same earlier less = refl
path_as (suc n) (suc p) m old new same earlier less =
    let before : old (suc p) < suc p = earlier (suc p) (omega arith) less in
    ap (λ (q : ℕ). path_by n new q ++ suc p ∷ []) (same (suc p) less)
    ∙ ap (λ (xs : List ℕ). xs ++ suc p ∷ []) (path_as n (old (suc p)) m old new same earlier (omega (arith, before, less)))
