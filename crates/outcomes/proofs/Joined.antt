-- Text that is appended piece by piece.
use Rattle.std.proofs.Common.{◌≡◌, ℕ, List, ◌++◌, ap, sym, ◌∙◌, append_assoc, refl, Ok, Err}
use Rattle.std.specs.Prelude.{Result, OnOk, is_ok, if◌then◌else◌, decimal}
use Rattle.std.proofs.lemmas.Result.{on_ok_weaker}

-- what a list is after `extend_from_slice`
pub extended : {T E : Type 0} (r : Result T E) (xs ys new : List ℕ) → new ≡ (if is_ok r then xs else ys) → OnOk r (new ≡ xs)
extended (Ok x) xs ys new h = h
extended (Err e) xs ys new h = tt

pub two : (old a b one new : List ℕ) → one ≡ old ++ a → new ≡ one ++ b → new ≡ old ++ (a ++ b)
two old a b one new p q = let all : new ≡ (old ++ a) ++ b = cc in all ∙ append_assoc old a b

-- a number and what it counts, if another number is the same
pub with_count : (old a what one new : List ℕ) (n count : ℕ) → one ≡ old ++ a → n ≡ count → new ≡ one ++ (decimal n ++ what) →
    new ≡ old ++ (a ++ decimal count ++ what)
with_count old a what one new n count p same q =
    two old (a ++ decimal count) what (one ++ decimal count) new
    (two old a (decimal count) one (one ++ decimal count) p refl)
    (q ∙ ap (λ k. one ++ (decimal k ++ what)) same ∙ sym (append_assoc one (decimal count) what))

-- the same for the last piece, whose call's result is returned unchanged
pub last : {T E : Type 0} (r : Result T E) (old a b one new : List ℕ) → one ≡ old ++ a → OnOk r (new ≡ one ++ b) →
    OnOk r (new ≡ old ++ (a ++ b))
last r old a b one new p q = on_ok_weaker r (λ h. two old a b one new p h) q
