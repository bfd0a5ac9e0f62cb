-- What is at the places of a list, and what changes if a value is replaced or appended.
use Rattle.std.proofs.Common.{◌≡◌, ◌≢◌, ℕ, zero, suc, ◌+◌, ◌<◌, inl, inr, List, [], ◌∷◌, ◌++◌, Option, Some, None, length, take, drop, refl, ap, sym, ◌∙◌, arith}
use Rattle.std.specs.Prelude.{All, get_or, slice_get, slice_set}
use Rattle.std.proofs.lemmas.Bool.{cases_eq}
use Rattle.std.proofs.lemmas.List.{get_or-set_same, get_or_push, length-set, length_push, set-get_or}
use Rattle.std.specs.List.{remove}
use Rattle.std.proofs.lemmas.List.Elements.{All-append, All-drop, All-get_or, All-take}
use Rattle.std.proofs.lemmas.Option.{get_or_from_slice_get, slice_get-get_or, slice_get_cases, slice_get_past, slice_get_read, slice_get_within}

-- ---- one value changes

-- the value at one index was this and is that, and every other index keeps what it had
pub record Changes {X : Type 0} (old new : ℕ → Option X) (k : ℕ) (x y : Option X) : Type 0 where
  pub was : old k ≡ x
  pub is : new k ≡ y
  pub others : (j : ℕ) → j ≢ k → new j ≡ old j

module _ {X : Type 0} {A : Type 0} {old new : ℕ → Option X} {k : ℕ} {x y : Option X} (c : Changes old new k x y) where
  -- what both values say alike is said alike at each index
  pub kept : (f : Option X → A) → f y ≡ f x → (j : ℕ) → f (new j) ≡ f (old j)
  kept f same j =
      elim (cases_eq j k) [
        | inl e ↦ rw e (ap f c.is ∙ same ∙ sym (ap f c.was))
        | inr differs ↦ ap f (c.others j differs)
      ]

module _ {X : Type 0} where
  set_other : (xs : List X) (k j : ℕ) (y : X) → j ≢ k → slice_get (slice_set xs k y) j ≡ slice_get xs j
  set_other [] k j y differs = refl
  set_other (x ∷ xs) zero zero y differs = absurd (differs refl)
  set_other (x ∷ xs) zero (suc j) y differs = refl
  set_other (x ∷ xs) (suc k) zero y differs = refl
  set_other (x ∷ xs) (suc k) (suc j) y differs = set_other xs k j y (λ e. differs (ap suc e))

  -- a value of a list is replaced
  pub changes_set : (xs : List X) (k : ℕ) (x y : X) → slice_get xs k ≡ Some x →
      Changes (slice_get xs) (slice_get (slice_set xs k y)) k (Some x) (Some y)
  changes_set xs k x y is =
      let there : k < length xs = slice_get_within xs k x is in
      record {
        was = is;
        is = slice_get_read (slice_set xs k y) (length xs) k y (sym (length-set xs k y)) there (sym (get_or-set_same xs k y y there));
        others = λ j differs. set_other xs k j y differs;
      }

  -- a list stays the same if a value is replaced by itself
  pub set_same : (xs : List X) (k : ℕ) (x : X) → slice_get xs k ≡ Some x → slice_set xs k x ≡ xs
  set_same xs k x is = ap (slice_set xs k) (sym (get_or_from_slice_get xs k x x is)) ∙ set-get_or xs k x

  push_other : (xs : List X) (y : X) (j : ℕ) → j ≢ length xs → slice_get (xs ++ y ∷ []) j ≡ slice_get xs j
  push_other [] y zero differs = absurd (differs refl)
  push_other [] y (suc j) differs = refl
  push_other (x ∷ xs) y zero differs = refl
  push_other (x ∷ xs) y (suc j) differs = push_other xs y j (λ e. differs (ap suc e))

  -- a value is appended to a list
  pub changes_push : (xs : List X) (y : X) → Changes (slice_get xs) (slice_get (xs ++ y ∷ [])) (length xs) None (Some y)
  changes_push xs y =
      record {
        was = slice_get_past xs (length xs) (omega arith);
        is = slice_get_read (xs ++ y ∷ []) (length xs + 1) (length xs) y (sym (length_push xs y)) (omega arith)
            (sym (get_or_push xs y y (length xs) refl));
        others = λ j differs. push_other xs y j differs;
      }

-- ---- what is at a place

module _ {X : Type 0} where
  -- what holds for all in a list holds for the one at a place
  pub at_place : (P : X → Type 0) (xs : List X) (k : ℕ) (x : X) → slice_get xs k ≡ Some x → All P xs → P x
  at_place P xs k x is all = rw (get_or_from_slice_get xs k x x is) at (All-get_or P xs k x (slice_get_within xs k x is) all)

  -- what holds for the one at each place holds for all in a list
  pub all_by_place : (P : X → Type 0) (xs : List X) → ((k : ℕ) (x : X) → slice_get xs k ≡ Some x → P x) → All P xs
  all_by_place P xs h k d there = h k (get_or xs k d) (slice_get-get_or xs k d there)

  -- a place of a list has a value
  pub value_at : (xs : List X) (k : ℕ) → k < length xs → (x : X) × (slice_get xs k ≡ Some x)
  value_at xs k there =
      elim (slice_get_cases xs k).1 [
        | inl found ↦ (found.0, found.2)
        | inr past ↦ absurd (omega (arith, there, past.0))
      ]

  -- what holds for all in a list holds for all that are left if one is removed
  pub all_without : (P : X → Type 0) (xs : List X) (k : ℕ) → All P xs → All P (remove xs k)
  all_without P xs k all = All-append P (take k xs) (drop (suc k) xs) (All-take P k xs all) (All-drop P (suc k) xs all)

  -- a list to which a value was appended is not empty
  pub push_some : (xs : List X) (x : X) → xs ++ x ∷ [] ≢ []
  push_some xs x e =
      let more = length_push xs x in
      let none : length (xs ++ x ∷ []) ≡ 0 = ap length e in
      omega (arith, more, none)
