-- The answers for items, each at the index of its item.
use Rattle.std.specs.Prelude.{◌<◌, ℕ, List, [], ◌∷◌, Option, IfSome, length, slice_index_or}

-- there are as many answers as items, and each is correct for the item at its index
abbrev pub AreAnswers : {I A : Type 0} → (I → A → Type 0) → List I → List A → Type 0
AreAnswers P [] [] = Unit {0}
AreAnswers P [] (y ∷ ys) = ⊥
AreAnswers P (x ∷ xs) [] = ⊥
AreAnswers P (x ∷ xs) (y ∷ ys) = P x y × AreAnswers P xs ys

-- ---- what the threads fill

-- a slot is empty, or holds a correct answer for the item
abbrev pub IsFilled : {I A : Type 0} → (I → A → Type 0) → I → Option A → Type 0
IsFilled P x slot = IfSome slot (P x)

-- each slot is empty, or holds a correct answer for the item at its place
abbrev pub AreFilled : {I A : Type 0} → (I → A → Type 0) → List I → List (Option A) → Type 0
AreFilled {I} {A} P items slots = (i : ℕ) (x : I) (s : Option A) → i < length items →
    IsFilled P (slice_index_or items i x) (slice_index_or slots i s)
