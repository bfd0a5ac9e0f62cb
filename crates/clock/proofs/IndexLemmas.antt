-- Lists of tasks that have their indices in them.
use Rattle.std.proofs.Common.{◌≡◌, ◌≢◌, ℕ, ◌-◌, ◌<◌, List, get_or, length, Option, Some, sym, ap, subst, ◌∙◌, arith}
use Rattle.cancel_scopes.specs.Kept.{IsPlaced}
use Rattle.cancel_scopes.proofs.IndexLemmas.{Removed, some_same}

-- a list whose tasks keep their indices
pub placed-same : (old new : ℕ → Option ℕ) (list later : List ℕ) → IsPlaced old list → ((task : ℕ) → new task ≡ old task) → later ≡ list →
    IsPlaced new later
placed-same old new list later h indices same =
    subst (λ (l : List ℕ). IsPlaced new l) (sym same) record {
      stands = λ task index at. h.stands task index (sym (indices task) ∙ at);
      placed = λ index within. indices (get_or list index 0) ∙ h.placed index within;
    }

-- the task that moves to the index of a task is the last one, and another task
pub moved_is : (old : ℕ → Option ℕ) (list rest : List ℕ) (task index moved : ℕ) → IsPlaced old list → old task ≡ Some index →
    Removed list rest index → index < length rest → moved ≡ get_or rest index 0 → (old moved ≡ Some (length list - 1)) × (moved ≢ task)
moved_is old list rest task index moved h at r inside is =
    let last : moved ≡ get_or list (length list - 1) 0 = is ∙ r.seam (omega (arith, inside, r.long)) in
    let stood : old moved ≡ Some (length list - 1) = ap old last ∙ h.placed (length list - 1) (omega (arith, inside, r.long)) in (
      stood,
      λ same.
          let p : index ≡ length list - 1 = some_same index (length list - 1) (sym at ∙ ap old (sym same) ∙ stood) in
          omega (arith, p, inside, r.long),
    )
