-- What is appended piece by piece, where the last call's result is returned as it is.
use Rattle.std.proofs.Common.{◌≡◌, ℕ, List, ◌++◌, ap, sym, ◌∙◌, append_assoc, Ok, Err}
use Rattle.std.specs.Prelude.{Result, OnOk, is_ok, if◌then◌else◌}
use Rattle.std.proofs.lemmas.Result.{on_ok_weaker}

-- what a list is after `extend_from_slice`
pub extended : {T E : Type 0} (r : Result T E) (xs ys new : List ℕ) → new ≡ (if is_ok r then xs else ys) → OnOk r (new ≡ xs)
extended (Ok x) xs ys new h = h
extended (Err e) xs ys new h = tt

two_lists : (old a b one new : List ℕ) → one ≡ old ++ a → new ≡ one ++ b → new ≡ old ++ (a ++ b)
two_lists old a b one new p q = let all : new ≡ (old ++ a) ++ b = cc in all ∙ append_assoc old a b

pub two : {T E : Type 0} (r : Result T E) (old a b one new : List ℕ) → one ≡ old ++ a → OnOk r (new ≡ one ++ b) →
    OnOk r (new ≡ old ++ (a ++ b))
two r old a b one new p q = on_ok_weaker r (λ h. two_lists old a b one new p h) q

pub three : {T E : Type 0} (r : Result T E) (old a b c one more new : List ℕ) → one ≡ old ++ a → more ≡ one ++ b →
    OnOk r (new ≡ more ++ c) → OnOk r (new ≡ old ++ (a ++ b ++ c))
three r old a b c one more new p q h = two r old (a ++ b) c more new (two_lists old a b one more p q) h

-- four pieces that are appended one by one are appended together
pub four : {T E : Type 0} (r : Result T E) (old a b c d one more most new : List ℕ) → one ≡ old ++ a → more ≡ one ++ b →
    most ≡ more ++ c → OnOk r (new ≡ most ++ d) → OnOk r (new ≡ old ++ (a ++ b ++ c ++ d))
four r old a b c d one more most new p q s h = three r old (a ++ b) c d more most new (two_lists old a b one more p q) s h

-- the same where two calls append two of them each
pub two_of_four : {T E : Type 0} (r : Result T E) (old a b c d one new : List ℕ) → one ≡ old ++ (a ++ b) →
    OnOk r (new ≡ one ++ (c ++ d)) → OnOk r (new ≡ old ++ (a ++ b ++ c ++ d))
two_of_four r old a b c d one new p q =
    on_ok_weaker r (λ all. all ∙ ap (λ xs. old ++ xs) (sym (append_assoc (a ++ b) c d))) (two r old (a ++ b) (c ++ d) one new p q)
