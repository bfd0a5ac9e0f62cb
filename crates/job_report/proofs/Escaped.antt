-- Bytes that are not escaped.
use Rattle.std.proofs.Common.{◌≡◌, ℕ, zero, suc, ◌<◌, ◌≤◌, List, [], ◌∷◌, ◌++◌, length, take, drop, get_or, refl, ap, sym, ◌∙◌, append-nil, arith}
use Rattle.std.proofs.lemmas.List.{take_all, length-drop, nil_from_length}
use Rattle.std.specs.Prelude.{true}
use Rattle.std.specs.List.{flat_map}
use Rattle.job_report.specs.Text.{byte_text, stands_for_itself}

escaped-plain : (x : ℕ) → stands_for_itself x ≡ true → byte_text x ≡ x ∷ []
escaped-plain x h = rw h refl

-- plain bytes are shown as they are
pub escaped_front : (xs : List ℕ) (n : ℕ) → n ≤ length xs → ((k : ℕ) → k < n → stands_for_itself (get_or xs k 0) ≡ true) →
    flat_map byte_text xs ≡ take n xs ++ flat_map byte_text (drop n xs)
escaped_front xs zero h plain = refl
escaped_front [] (suc n) h plain = absurd (omega arith)
escaped_front (x ∷ xs) (suc n) h plain =
    let others = escaped_front xs n (omega arith) (λ k lt. plain (suc k) (omega arith)) in
    let first : byte_text x ≡ x ∷ [] = escaped-plain x (plain 0 (omega arith)) in
    rw (first, others) refl

-- bytes of which none needs an escape
pub escaped_none : (xs front back : List ℕ) (n : ℕ) → n ≤ length xs → ((k : ℕ) → k < n → stands_for_itself (get_or xs k 0) ≡ true) →
    front ≡ take n xs → back ≡ drop n xs → length back ≡ 0 → flat_map byte_text xs ≡ xs
escaped_none xs front back n h plain f b none =
    let all : take n xs ≡ xs = take_all n xs (omega (arith, length-drop n xs, ap length b)) in
    let rest : drop n xs ≡ [] = sym b ∙ nil_from_length back none in
    escaped_front xs n h plain ∙ rw (all, rest) (append-nil xs)

-- bytes before the first that needs an escape, that byte, and those after it
pub escaped_some : (xs front back others : List ℕ) (x n : ℕ) → n ≤ length xs →
    ((k : ℕ) → k < n → stands_for_itself (get_or xs k 0) ≡ true) → front ≡ take n xs → back ≡ drop n xs → back ≡ x ∷ others →
    flat_map byte_text xs ≡ front ++ (byte_text x ++ flat_map byte_text others)
escaped_some xs front back others x n h plain f b some =
    let rest : drop n xs ≡ x ∷ others = sym b ∙ some in
    escaped_front xs n h plain ∙ ap (λ ys. take n xs ++ flat_map byte_text ys) rest
    ∙ ap (λ ys. ys ++ (byte_text x ++ flat_map byte_text others)) (sym f)
