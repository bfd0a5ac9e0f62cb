-- How often a number occurs in lists, and sums over hands.
use Rattle.std.proofs.Common.{◌≡◌, ℕ, zero, suc, ◌+◌, ◌<◌, ◌≤◌, List, [], ◌∷◌, ◌++◌, cond, set, All, refl, sym, ap, inl, inr, arith}
use Rattle.std.proofs.lemmas.Bool.{cases_lt, eq-eqb, ne_eqb}
use mathlib.Core.Option.{some, some-injective, some-ne-none}
use lib.ListN.{get_elem?}
use Rattle.workers.specs.declared.rule.Hand.{Hand}
use Rattle.workers.specs.Rule.{times, total}

-- a number occurs once in the list of only that number
pub times-here : (x : ℕ) → times x (x ∷ []) ≡ 1
times-here x = ap (λ b. cond b 1 0 + 0) (eq-eqb x x refl)

-- it does not occur in the list of only another number
pub times-else : (x y : ℕ) → (x ≡ y → ⊥) → times x (y ∷ []) ≡ 0
times-else x y other = ap (λ b. cond b 1 0 + 0) (ne_eqb x y other)

-- it occurs in two lists joined as often as in the first and in the second together
pub times-append : (x : ℕ) (xs ys : List ℕ) → times x (xs ++ ys) ≡ times x xs + times x ys
times-append x [] ys = omega arith
times-append x (z ∷ zs) ys = let rest = times-append x zs ys in omega arith

-- where no number from n on occurs in a list, all of it is below n
pub below_all : (n : ℕ) (xs : List ℕ) → ((x : ℕ) → n ≤ x → times x xs ≡ 0) → All (λ j. j < n) xs
below_all n [] none k d within = absurd (omega arith)
below_all n (y ∷ ys) none zero d within =
    elim (cases_lt y n) [
      | inl below ↦ below
      | inr above ↦
          let here : times y (y ∷ []) ≡ 1 = times-here y in
          let nothing : times y (y ∷ ys) ≡ 0 = none y above in
          let parts : times y (y ∷ ys) ≡ times y (y ∷ []) + times y ys = times-append y (y ∷ []) ys in
          absurd (omega arith)
    ]
below_all n (y ∷ ys) none (suc k) d within =
    below_all n ys (λ x above.
    let nothing : times x (y ∷ ys) ≡ 0 = none x above in
    let parts : times x (y ∷ ys) ≡ times x (y ∷ []) + times x ys = times-append x (y ∷ []) ys in
    omega arith) k d (omega arith)

-- the total after a change of one hand
pub total-set : (f : Hand → ℕ) (hands : List Hand) (i : ℕ) (v w : Hand) → get_elem? hands i ≡ some v →
    total f (set hands i w) + f v ≡ total f hands + f w
total-set f [] i v w at = absurd (some-ne-none v (sym at))
total-set f (x ∷ xs) zero v w at = let same : f x ≡ f v = ap f (some-injective x v at) in omega arith
total-set f (x ∷ xs) (suc i) v w at = let rest = total-set f xs i v w at in omega arith

-- the total with one hand more
pub total-push : (f : Hand → ℕ) (hands : List Hand) (w : Hand) → total f (hands ++ w ∷ []) ≡ total f hands + f w
total-push f [] w = omega arith
total-push f (x ∷ xs) w = let rest = total-push f xs w in omega arith

-- one hand's share is at most the total
pub at_most_total : (f : Hand → ℕ) (hands : List Hand) (i : ℕ) (v : Hand) → get_elem? hands i ≡ some v → f v ≤ total f hands
at_most_total f [] i v at = absurd (some-ne-none v (sym at))
at_most_total f (x ∷ xs) zero v at = let same : f x ≡ f v = ap f (some-injective x v at) in omega arith
at_most_total f (x ∷ xs) (suc i) v at = let rest = at_most_total f xs i v at in omega arith

-- one total is at most another where this holds for each hand
pub total-le : (f g : Hand → ℕ) (hands : List Hand) → ((i : ℕ) (v : Hand) → get_elem? hands i ≡ some v → f v ≤ g v) →
    total f hands ≤ total g hands
total-le f g [] each = omega arith
total-le f g (x ∷ xs) each =
    let first : f x ≤ g x = each 0 x refl in
    let rest = total-le f g xs (λ i v at. each (suc i) v at) in
    omega arith

-- hands that stand for no ticket have nothing
pub total-none : (f : Hand → ℕ) (hands : List Hand) → total (λ v. v.parts) hands ≡ 0 →
    ((i : ℕ) (v : Hand) → get_elem? hands i ≡ some v → v.parts ≡ 0 → f v ≡ 0) → total f hands ≡ 0
total-none f [] none each = refl
total-none f (x ∷ xs) none each =
    let first : f x ≡ 0 = each 0 x refl (omega arith) in
    let rest = total-none f xs (omega arith) (λ i v at. each (suc i) v at) in
    omega arith

-- the hand that stands for all tickets has everything
pub total-alone : (f : Hand → ℕ) (hands : List Hand) (i : ℕ) (v : Hand) → get_elem? hands i ≡ some v →
    total (λ u. u.parts) hands ≡ v.parts → ((j : ℕ) (u : Hand) → get_elem? hands j ≡ some u → u.parts ≡ 0 → f u ≡ 0) → total f hands ≡ f v
total-alone f [] i v at all each = absurd (some-ne-none v (sym at))
total-alone f (x ∷ xs) zero v at all each =
    let same : f x ≡ f v = ap f (some-injective x v at) in
    let parts : x.parts ≡ v.parts = ap (λ (u : Hand). u.parts) (some-injective x v at) in
    let rest = total-none f xs (omega arith) (λ j u there. each (suc j) u there) in
    omega arith
total-alone f (x ∷ xs) (suc i) v at all each =
    let share : v.parts ≤ total (λ u. u.parts) xs = at_most_total (λ u. u.parts) xs i v at in
    let first : f x ≡ 0 = each 0 x refl (omega arith) in
    let rest = total-alone f xs i v at (omega arith) (λ j u there. each (suc j) u there) in
    omega arith
