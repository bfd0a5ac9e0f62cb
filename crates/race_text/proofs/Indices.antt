-- Indices that differ only in the last one, compared by the last ones and those before.
use Rattle.std.proofs.Common.{◌≡◌, refl, ap, ◌∙◌, sym, eq-eqb, ne_eqb}
use Rattle.std.proofs.Math.Bool.{and-false}
use Rattle.std.proofs.lemmas.List.{nil_from_length}
use Rattle.std.specs.Prelude.{ℕ, Bool, true, false, ◌==◌, ◌&&◌, not, List, [], ◌∷◌, ◌++◌, length}
use Rattle.std.specs.Str.{bytes_eq}
use Rattle.race_text.specs.Copies.{differ_last}

and_true : (a : Bool) → (a && true) ≡ a
and_true true = refl
and_true false = refl

both_false : (a b : Bool) → (a && false) ≡ (b && false)
both_false a b = and-false a ∙ sym (and-false b)

swapped : (a b c : Bool) → (a && (b && c)) ≡ (b && (a && c))
swapped true b c = refl
swapped false true c = refl
swapped false false c = refl

-- both lists taken apart at the last index: they differ only in the last one if the last ones differ and those before are equal
differ_at_last : (before others : List ℕ) (i j : ℕ) →
    (not (i == j) && bytes_eq before others) ≡ differ_last (before ++ i ∷ []) (others ++ j ∷ [])
differ_at_last [] [] i j = and_true (not (i == j))
differ_at_last [] (l ∷ []) i j = both_false (not (i == j)) (i == l)
differ_at_last [] (l ∷ m ∷ ms) i j = both_false (not (i == j)) (i == l)
differ_at_last (k ∷ []) [] i j = both_false (not (i == j)) (k == j)
differ_at_last (k ∷ n ∷ []) [] i j = both_false (not (i == j)) (k == j)
differ_at_last (k ∷ n ∷ m ∷ ms) [] i j = both_false (not (i == j)) (k == j)
differ_at_last (k ∷ []) (l ∷ ms) i j =
    swapped (not (i == j)) (k == l) (bytes_eq [] ms) ∙ ap (λ b. k == l && b) (differ_at_last [] ms i j)
differ_at_last (k ∷ n ∷ ns) (l ∷ ms) i j =
    swapped (not (i == j)) (k == l) (bytes_eq (n ∷ ns) ms) ∙ ap (λ b. k == l && b) (differ_at_last (n ∷ ns) ms i j)

taken_apart : (xs ys before others : List ℕ) (i j : ℕ) → xs ≡ before ++ i ∷ [] → ys ≡ others ++ j ∷ [] →
    (not (i == j) && bytes_eq before others) ≡ differ_last xs ys
taken_apart xs ys before others i j one other =
    differ_at_last before others i j ∙ ap (λ zs. differ_last zs (others ++ j ∷ [])) (sym one) ∙ ap (differ_last xs) (sym other)

-- if the last ones differ, the result depends on those before
pub last_differ : (xs ys before others : List ℕ) (i j : ℕ) (same : Bool) → xs ≡ before ++ i ∷ [] → ys ≡ others ++ j ∷ [] →
    (i ≡ j → ⊥) → same ≡ bytes_eq before others → same ≡ differ_last xs ys
last_differ xs ys before others i j same one other differ by =
    by ∙ sym (ap (λ b. not b && bytes_eq before others) (ne_eqb i j differ)) ∙ taken_apart xs ys before others i j one other

-- if the last ones are equal, the result is that they do not
pub last_same : (xs ys before others : List ℕ) (i j : ℕ) → xs ≡ before ++ i ∷ [] → ys ≡ others ++ j ∷ [] →
    i ≡ j → not (i == j) ≡ differ_last xs ys
last_same xs ys before others i j one other same =
    ap not (eq-eqb i j same) ∙ sym (ap (λ b. not b && bytes_eq before others) (eq-eqb i j same)) ∙ taken_apart xs ys before others i j one other

ends_none : (xs : List ℕ) → false ≡ differ_last xs []
ends_none [] = refl
ends_none (x ∷ []) = refl
ends_none (x ∷ z ∷ zs) = refl

-- an empty list has no last index
pub none_differ : (xs ys : List ℕ) → length ys ≡ 0 → false ≡ differ_last xs ys
none_differ xs ys none = ends_none xs ∙ ap (differ_last xs) (sym (nil_from_length ys none))
