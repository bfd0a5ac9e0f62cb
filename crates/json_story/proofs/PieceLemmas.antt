-- Texts that are written piece by piece.
use Rattle.std.proofs.Common.{◌≡◌, ℕ, List, ◌++◌, ap, ◌∙◌}
use Rattle.std.proofs.lemmas.List.{append_assoc}

-- a piece and another one after it
pub joined : (old mid new one other : List ℕ) → mid ≡ old ++ one → new ≡ mid ++ other → new ≡ old ++ (one ++ other)
joined old mid new one other is_mid is_new = is_new ∙ ap (λ text. text ++ other) is_mid ∙ append_assoc old one other
