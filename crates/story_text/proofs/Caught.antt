-- What propagates where a cancellation was caught, and how a task ends, written piece by piece.
use Rattle.std.proofs.Common.{◌≡◌, ℕ, List, ◌++◌, ap, ◌∙◌, append_assoc}
use Rattle.std.specs.Prelude.{true, false, Option, Some, None, is_none, codes}
use Rattle.exceptions.specs.Exceptions.{Exc}
use Rattle.job_story.specs.Sentences.{caught_text}
use Rattle.exceptions.specs.Texts.{exc_text}

-- where nothing is left, a `TooSlow` is raised
pub caught_raises : (left : Option Exc) (e : Exc) (old mid new : List ℕ) → is_none left ≡ true → mid ≡ old ++ codes ", raises " →
    new ≡ mid ++ exc_text e → new ≡ old ++ caught_text left (Some e)
caught_raises None e old mid new none m n =
    n ∙ ap (λ xs. xs ++ exc_text e) m ∙ append_assoc old (codes ", raises ") (exc_text e)
caught_raises (Some x) e old mid new none m n = let clash : false ≡ true = none in cc

-- otherwise the rest propagates
pub caught_rest : (left : Option Exc) (e : Exc) (old a b new : List ℕ) → is_none left ≡ false → a ≡ old ++ codes ", " →
    b ≡ a ++ exc_text e → new ≡ b ++ codes " propagates" → new ≡ old ++ caught_text left (Some e)
caught_rest None e old a b new some p q r = let clash : true ≡ false = some in cc
caught_rest (Some x) e old a b new some p q r =
    let all : new ≡ ((old ++ codes ", ") ++ exc_text e) ++ codes " propagates" = cc in all ∙ simp append_assoc
