-- How many numbers below a bound pass a test, and that one fewer does where one is taken out.
use Rattle.std.proofs.Common.{◌≡◌, ◌≢◌, inl, inr, ℕ, zero, suc, ◌+◌, ◌<◌, ◌≤◌, Bool, true, false, if◌then◌else◌, List, length, refl, ap, sym, ◌∙◌, arith}
use Rattle.std.specs.Prelude.{◌⊎◌, slice_index_or}
use Rattle.std.proofs.lemmas.Bool.{cases_eq, cases_lt}
use Rattle.std.proofs.lemmas.List.{get_or_past}

abbrev pub one_where : Bool → ℕ
one_where b = if b then 1 else 0

abbrev pub count_below : ℕ → (ℕ → Bool) → ℕ
count_below zero test = 0
count_below (suc n) test = one_where (test n) + count_below n test

same_below : (n : ℕ) (f g : ℕ → Bool) → ((k : ℕ) → k < n → g k ≡ f k) → count_below n g ≡ count_below n f
same_below zero f g same = refl
same_below (suc n) f g same =
    let a : one_where (g n) ≡ one_where (f n) = ap one_where (same n (omega arith)) in
    let b : count_below n g ≡ count_below n f = same_below n f g (λ k lt. same k (omega (arith, lt))) in
    let e : one_where (g n) + count_below n g ≡ one_where (f n) + count_below n f = omega (arith, a, b) in e

-- one that passed passes no more, and the others as before
pub fewer_below : (n : ℕ) (f g : ℕ → Bool) (key : ℕ) → key < n → f key ≡ true → g key ≡ false →
    ((other : ℕ) → other ≢ key → g other ≡ f other) → count_below n g < count_below n f
fewer_below zero f g key lt was is others = absurd (omega (arith, lt))
fewer_below (suc n) f g key lt was is others = by_key (cases_eq n key) (λ less. fewer_below n f g key less was is others)
  where
    by_key : (n ≡ key) ⊎ (n ≢ key) → (key < n → count_below n g < count_below n f) →
        one_where (g n) + count_below n g < one_where (f n) + count_below n f
    by_key (inl e) more =
        let a : one_where (g n) ≡ 0 = ap one_where (ap g e ∙ is) in
        let b : one_where (f n) ≡ 1 = ap one_where (ap f e ∙ was) in
        let c : count_below n g ≡ count_below n f =
        same_below n f g (λ k less. others k (λ h. let same : n ≡ key = e in omega (arith, h, less, same))) in
        omega (arith, a, b, c)
    by_key (inr differs) more =
        let a : one_where (g n) ≡ one_where (f n) = ap one_where (others n differs) in
        let b : count_below n g < count_below n f = more (let x = lt in let y = differs in omega (arith, x, y)) in
        omega (arith, a, b)

-- what is found in a list is within it
pub found_within : {X : Type 0} (xs : List X) (key : ℕ) (d x : X) → slice_index_or xs key d ≡ x → (x ≡ d → ⊥) → key < length xs
found_within xs key d x e differs = by_order (cases_lt key (length xs))
  where
    by_order : (key < length xs) ⊎ (length xs ≤ key) → key < length xs
    by_order (inl lt) = lt
    by_order (inr past) = absurd (differs (sym e ∙ get_or_past xs key d past))
