-- Appending one part after the other, up to a number of items.
use Rattle.std.proofs.Common.{◌≡◌, ◌∙◌, refl, sym, ap, arith, ℕ, zero, suc, ◌+◌, ◌≤◌, ◌<◌, List, [], ◌∷◌, ◌++◌, length, take, drop, get_or, drop-cons, append_assoc}

pub again : {A : Type 0} (n : ℕ) (xs ys : List A) → take n (take n xs ++ ys) ≡ take n (xs ++ ys)
again zero xs ys = refl
again (suc n) [] ys = refl
again (suc n) (x ∷ xs) ys = ap (λ zs. x ∷ zs) (again n xs ys)

pub whole : {A : Type 0} (n : ℕ) (xs : List A) → length xs ≤ n → take n xs ≡ xs
whole zero [] h = refl
whole zero (x ∷ xs) h = let e : ⊥ = omega (arith, h) in absurd e
whole (suc n) [] h = refl
whole (suc n) (x ∷ xs) h = ap (λ zs. x ∷ zs) (whole n xs (omega (arith, h)))

pub full : {A : Type 0} (n : ℕ) (xs ys : List A) → length xs ≤ n → n ≤ length xs → take n (xs ++ ys) ≡ xs
full zero [] ys h g = refl
full zero (x ∷ xs) ys h g = let e : ⊥ = omega (arith, h) in absurd e
full (suc n) [] ys h g = let e : ⊥ = omega (arith, g) in absurd e
full (suc n) (x ∷ xs) ys h g = ap (λ zs. x ∷ zs) (full n xs ys (omega (arith, h)) (omega (arith, g)))

pub short : {A : Type 0} (n : ℕ) (xs : List A) → length (take n xs) ≤ n
short zero xs = omega arith
short (suc n) [] = omega arith
short (suc n) (x ∷ xs) = omega (arith, short n xs)

pub nothing_after : {A : Type 0} (xs : List A) → xs ++ [] ≡ xs
nothing_after [] = refl
nothing_after (x ∷ xs) = ap (λ zs. x ∷ zs) (nothing_after xs)

-- one part more was appended
pub one_more : {A : Type 0} (n : ℕ) (old new part rest all : List A) → new ≡ take n (old ++ part) → take n (old ++ (part ++ rest)) ≡ all →
    take n (new ++ rest) ≡ all
one_more n old new part rest all is h =
    ap (λ zs. take n (zs ++ rest)) is ∙ again n (old ++ part) rest ∙ ap (take n) (append_assoc old part rest) ∙ h

-- no part is left
pub none_left : {A : Type 0} (n : ℕ) (new all : List A) → length new ≤ n → take n (new ++ []) ≡ all → new ≡ all
none_left n new all low h = sym (whole n new low) ∙ ap (take n) (sym (nothing_after new)) ∙ h

-- no more items are wanted
pub none_wanted : {A : Type 0} (n : ℕ) (new rest all : List A) → length new ≤ n → n ≤ length new → take n (new ++ rest) ≡ all → new ≡ all
none_wanted n new rest all low high h = sym (full n new rest low high) ∙ h

pub still_short : {A : Type 0} (n : ℕ) (new xs : List A) → new ≡ take n xs → length new ≤ n
still_short n new xs is = rw is (short n xs)

-- the items from a place on
pub dropped : {A : Type 0} (xs : List A) (i : ℕ) (x : A) → i < length xs → x ≡ get_or xs i x → drop i xs ≡ x ∷ drop (i + 1) xs
dropped xs i x lt is =
    let next : suc i ≡ i + 1 = omega arith in
    drop-cons xs i x lt ∙ ap (λ y. y ∷ drop (suc i) xs) (sym is) ∙ ap (λ n. x ∷ drop n xs) next
