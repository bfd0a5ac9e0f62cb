-- Writing the slot of one scope.
use Rattle.std.proofs.Common.{◌≡◌, ◌≢◌, ◌⊎◌, ℕ, zero, suc, ◌+◌, ◌<◌, ◌≤◌, Bool, false, cond, [], ◌∷◌, length, slice_set, count_by, Option, Some, None, refl, sym, ap, ◌∙◌, arith, inl, inr}
use Rattle.std.proofs.lemmas.Bool.{cases_eq, cases_lt}
use Rattle.std.proofs.lemmas.List.{get_or-set_same, get_or-set_other, get_or_past}
use Rattle.std.proofs.lemmas.List.Sums.{sum_by-set}
use Rattle.cancel_scopes.specs.Kept.{Slots, scope_in}
use Rattle.cancel_scopes.proofs.DepthLemmas.{counts}
use Rattle.cancel_scopes.specs.declared.store.Scope.{Scope}

-- a key that is kept is within
pub key_within : (slots : Slots) (key : ℕ) (s : Scope) → scope_in slots key ≡ Some s → key < length slots
key_within slots key s kept = inside (cases_lt key (length slots))
  where
    inside : (key < length slots) ⊎ (length slots ≤ key) → key < length slots
    inside (inl h) = h
    inside (inr past) = absurd (let e = get_or_past slots key None past in cc)

-- what was written is found
pub written : (slots : Slots) (key : ℕ) (s : Scope) (o : Option Scope) → scope_in slots key ≡ Some s →
    scope_in (slice_set slots key o) key ≡ o
written slots key s o kept = get_or-set_same slots key o None (key_within slots key s kept)

-- what was not written stays
pub unwritten : (slots : Slots) (key other : ℕ) (o : Option Scope) → other ≢ key →
    scope_in (slice_set slots key o) other ≡ scope_in slots other
unwritten slots key other o differs = get_or-set_other slots key other o None differs

-- what a write leaves as it was
pub same_by : {X : Type 0} (f : Option Scope → X) → (slots : Slots) (key : ℕ) (s : Scope) (o : Option Scope) → scope_in slots key ≡ Some s →
    f o ≡ f (Some s) → (k : ℕ) → f (scope_in (slice_set slots key o) k) ≡ f (scope_in slots k)
same_by f slots key s o kept e k =
    elim (cases_eq k key) [
      | inl same ↦ ap f (ap (scope_in (slice_set slots key o)) same ∙ written slots key s o kept) ∙ e
          ∙ sym (ap f (ap (scope_in slots) same ∙ kept))
      | inr differs ↦ ap f (unwritten slots key k o differs)
    ]

-- how many elements pass a test after a write
pub count_set : (p : Option Scope → Bool) (slots : Slots) (key : ℕ) (s : Scope) (o : Option Scope) → scope_in slots key ≡ Some s →
    count_by p (slice_set slots key o) + cond (p (Some s)) 1 0 ≡ count_by p slots + cond (p o) 1 0
count_set p slots key s o kept =
    let f : Option Scope → ℕ = λ x. cond (p x) 1 0 in
    let e = sum_by-set f slots key o None (key_within slots key s kept) in
    let here : f (scope_in slots key) ≡ f (Some s) = ap f kept in
    omega (arith, e, here)

-- equally many pass a test where it has the same result for each key
pub count_same : (p : Option Scope → Bool) → p None ≡ false → (xs ys : Slots) → ((k : ℕ) → p (scope_in xs k) ≡ p (scope_in ys k)) →
    count_by p xs ≡ count_by p ys
count_same p none [] [] h = refl
count_same p none [] (y ∷ ys) h =
    let first : p y ≡ false = sym (h zero) ∙ none in
    let rest : count_by p [] ≡ count_by p ys = count_same p none [] ys (λ k. h (suc k)) in
    rw (counts p y ys, first) (omega (arith, rest))
count_same p none (x ∷ xs) [] h =
    let first : p x ≡ false = h zero ∙ none in
    let rest : count_by p xs ≡ count_by p [] = count_same p none xs [] (λ k. h (suc k)) in
    rw (counts p x xs, first) (omega (arith, rest))
count_same p none (x ∷ xs) (y ∷ ys) h =
    let first : p x ≡ p y = h zero in
    let rest : count_by p xs ≡ count_by p ys = count_same p none xs ys (λ k. h (suc k)) in
    rw (counts p x xs, counts p y ys, first, rest) refl
