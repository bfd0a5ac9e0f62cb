-- Spaces that are appended in two steps.
use Rattle.std.proofs.Common.{◌≡◌, ℕ, ◌+◌, List, ◌++◌, ap, ◌∙◌, append_assoc}
use Rattle.std.specs.Prelude.{replicate}
use Rattle.std.proofs.lemmas.List.{replicate-append-replicate}

two_steps : (old : List ℕ) (n m : ℕ) → (old ++ replicate n 32) ++ replicate m 32 ≡ old ++ replicate (n + m) 32
two_steps old n m = append_assoc old (replicate n 32) (replicate m 32) ∙ ap (λ xs. old ++ xs) (replicate-append-replicate n m 32)

-- what a list is after some spaces, and two more
pub margin : (old one new : List ℕ) (n : ℕ) → one ≡ old ++ replicate n 32 → new ≡ one ++ replicate 2 32 →
    new ≡ old ++ replicate (n + 2) 32
margin old one new n p q = let all : new ≡ (old ++ replicate n 32) ++ replicate 2 32 = cc in all ∙ two_steps old n 2
