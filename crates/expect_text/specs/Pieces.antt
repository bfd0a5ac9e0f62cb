-- How a pattern is matched piece by piece, where a piece is what stands between two `*`.
use Rattle.std.specs.Prelude.{ℕ, Bool, List, [], ◌∷◌}
use Rattle.expect_text.specs.Patterns.{first_is}

-- whether a text begins with a piece, and what follows it passes a test
abbrev pub starts_and : (piece : List ℕ) → (List ℕ → Bool) → List ℕ → Bool
starts_and [] test text = test text
starts_and (p ∷ ps) test text = first_is p (starts_and ps test) text
