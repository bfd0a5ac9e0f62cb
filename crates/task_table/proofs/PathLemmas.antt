-- The rows from the root's to one.
use Rattle.std.proofs.Common.{◌≡◌, ℕ, zero, suc, ◌<◌, ◌≤◌, List, [], ◌∷◌, ◌++◌, refl, ap, sym, ◌∙◌, append_assoc, arith}
use Rattle.std.specs.Prelude.{reverse}
use Rattle.std.proofs.lemmas.List.{reverse-append}
use Rattle.task_table.specs.declared.task_table.TaskTable.{TaskTable}
use Rattle.task_table.specs.TaskTable.{task_count, parent_of, path_by, path_of, IsTaskTable}

-- more steps than are needed change nothing
path_more : (n m : ℕ) (parent : ℕ → ℕ) (p : ℕ) → ((q : ℕ) → 0 < q → q ≤ p → parent q < q) → p ≤ n → n ≤ m →
    path_by m parent p ≡ path_by n parent p
path_more zero zero parent p earlier le more = refl
path_more zero (suc m) parent zero earlier le more = refl
path_more zero (suc m) parent (suc p) earlier le more = absurd (omega arith)
path_more (suc n) zero parent p earlier le more = absurd (omega arith)
path_more (suc n) (suc m) parent zero earlier le more = refl
path_more (suc n) (suc m) parent (suc p) earlier le more =
    let below : parent (suc p) < suc p = earlier (suc p) (omega arith) (omega arith) in
    ap (λ (xs : List ℕ). xs ++ suc p ∷ [])
    (path_more n m parent (parent (suc p)) (λ q some small. earlier q some (omega arith)) (omega arith) (omega arith))

-- the path to a row is that to the one of the task that started it, and the row
pub path_step : (r : TaskTable) (p : ℕ) → IsTaskTable r → 0 < p → p < task_count r →
    path_of r p ≡ path_of r (parent_of r p) ++ p ∷ []
path_step r zero ok some less = absurd (omega arith)
path_step r (suc p) ok some less =
    let below : parent_of r (suc p) < suc p = ok.earlier (suc p) some less in
    ap (λ (xs : List ℕ). xs ++ suc p ∷ [])
    (path_more (parent_of r (suc p)) p (parent_of r) (parent_of r (suc p)) (λ q some small. ok.earlier q some (omega arith)) (omega arith)
    (omega arith))

-- one step of the way up: the row is added to those below it
pub path_pushed : (r : TaskTable) (row at parent : ℕ) (below more : List ℕ) → IsTaskTable r → 0 < at → at < task_count r →
    parent_of r at ≡ parent → more ≡ below ++ at ∷ [] → path_of r row ≡ path_of r at ++ reverse below →
    (parent < task_count r) × (path_of r row ≡ path_of r parent ++ reverse more)
path_pushed r row at parent below more ok some less is added so_far =
    let before : parent_of r at < at = ok.earlier at some less in (
      omega arith,
      so_far
          ∙ (ap (λ (xs : List ℕ). xs ++ reverse below) (path_step r at ok some less ∙ ap (λ (p : ℕ). path_of r p ++ at ∷ []) is)
          ∙ (append_assoc (path_of r parent) (at ∷ []) (reverse below)
          ∙ ap (λ (xs : List ℕ). path_of r parent ++ xs) (sym (ap reverse added ∙ reverse-append below (at ∷ []))))),
    )
