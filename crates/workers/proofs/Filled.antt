-- Filled slots and the answers in them.
use Rattle.std.proofs.Common.{◌≡◌, zero, suc, List, [], ◌∷◌, ◌++◌, Option, Some, length, map, sym, ap, ◌∙◌, subst, arith, append_assoc}
use Rattle.std.proofs.lemmas.List.{map-append, length-map}
use Rattle.workers.specs.Answers.{AreAnswers, AreFilled}

-- where all slots are full, their answers are those for the items
each : {I A : Type 0} (P : I → A → Type 0) (items : List I) (answers : List A) → length answers ≡ length items →
    AreFilled P items (map Some answers) → AreAnswers P items answers
each P [] [] n filled = tt
each P [] (y ∷ ys) n filled = absurd (omega arith)
each P (x ∷ xs) [] n filled = absurd (omega arith)
each P (x ∷ xs) (y ∷ ys) n filled =
    (filled zero x (Some y) (omega arith), each P xs ys (omega arith) (λ i d s less. filled (suc i) d s (omega arith)))

-- answers that are the contents of the slots of items are those for the items
pub answers_of_slots : {I A : Type 0} (P : I → A → Type 0) (items : List I) (slots : List (Option A)) (answers : List A) →
    map Some answers ≡ slots → length slots ≡ length items → AreFilled P items slots → AreAnswers P items answers
answers_of_slots P items slots answers taken paired filled =
    each P items answers (sym (length-map answers Some) ∙ ap length taken ∙ paired) (subst (AreFilled P items) (sym taken) filled)

-- one more answer is taken out
pub taken_one_more : {A : Type 0} (answers more : List A) (rest left slots : List (Option A)) (slot : Option A) (answer : A) →
    rest ≡ slot ∷ left → slot ≡ Some answer → more ≡ answers ++ answer ∷ [] → map Some answers ++ rest ≡ slots →
    map Some more ++ left ≡ slots
taken_one_more answers more rest left slots slot answer next holds pushed before =
    ap (λ items. map Some items ++ left) pushed ∙ ap (λ items. items ++ left) (map-append Some answers (answer ∷ []))
    ∙ append_assoc (map Some answers) (Some answer ∷ []) left
    ∙ ap (λ s. map Some answers ++ (s ∷ left)) (sym holds) ∙ ap (λ items. map Some answers ++ items) (sym next) ∙ before
