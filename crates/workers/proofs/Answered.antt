-- Answers in another form, for callers of `answers_for`.
use Rattle.std.proofs.Common.{List, [], ◌∷◌, map}
use Rattle.workers.specs.Answers.{AreAnswers}

-- answers for which a property holds in that form are answers in that form
pub seen_as : {I A B : Type 0} (P : I → B → Type 0) (form : A → B) (items : List I) (answers : List A) →
    AreAnswers (λ x y. P x (form y)) items answers → AreAnswers P items (map form answers)
seen_as P form [] [] are = tt
seen_as P form [] (y ∷ ys) are = absurd are
seen_as P form (x ∷ xs) [] are = absurd are
seen_as P form (x ∷ xs) (y ∷ ys) are = (are.0, seen_as P form xs ys are.1)
