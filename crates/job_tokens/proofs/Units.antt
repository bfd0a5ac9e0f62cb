-- Reading the units of a string one after the other, as the loop does.
use Rattle.std.proofs.Common.{◌≡◌, ℕ, zero, suc, ◌+◌, ◌-◌, ◌<◌, List, [], ◌∷◌, ◌++◌, refl, sym, ap, ◌∙◌, append_assoc, arith}
use Rattle.std.specs.Prelude.{Some, None}
use Rattle.std.proofs.lemmas.List.{append-nil}
use Rattle.job_tokens.specs.Lexing.{Units_read, units, unit_at, after_quote, with_unit}

-- the bytes of a string that were read before, and what is read after them
abbrev pub with_front : List ℕ → Units_read → Units_read
with_front front None = None
with_front front (Some read) = Some (front ++ read.0, read.1)

regroup : (front : List ℕ) (b : ℕ) (read : Units_read) → with_front front (with_unit b read) ≡ with_front (front ++ b ∷ []) read
regroup front b None = refl
regroup front b (Some read) = ap (λ (bytes : List ℕ). Some (bytes, read.1)) (simp append_assoc)

-- the case of the closing quote
pub ends : (front : List ℕ) (n : ℕ) (rest after : List ℕ) (total : Units_read) → after_quote rest ≡ Some after →
    with_front front (units n rest) ≡ total → total ≡ Some (front, after)
unfolding units
ends front zero rest after total quote so_far =
    let one : with_front front (units zero rest) ≡ Some (front, after) =
    rw quote (ap (λ (bytes : List ℕ). Some (bytes, after)) (append-nil front)) in
    sym so_far ∙ one
ends front (suc n) rest after total quote so_far =
    let one : with_front front (units (suc n) rest) ≡ Some (front, after) =
    rw quote (ap (λ (bytes : List ℕ). Some (bytes, after)) (append-nil front)) in
    sym so_far ∙ one

-- the case of bytes that are no unit
pub fails : (front : List ℕ) (n : ℕ) (rest : List ℕ) (total : Units_read) → after_quote rest ≡ None → unit_at rest ≡ None →
    with_front front (units n rest) ≡ total → total ≡ None
unfolding units
fails front zero rest total unquoted none so_far =
    let one : with_front front (units zero rest) ≡ None = rw unquoted refl in
    sym so_far ∙ one
fails front (suc n) rest total unquoted none so_far =
    let one : with_front front (units (suc n) rest) ≡ None = rw (unquoted, none) refl in
    sym so_far ∙ one

-- the case in which no further unit may come
pub is_full : (front : List ℕ) (n : ℕ) (rest : List ℕ) (total : Units_read) → n ≡ 0 → after_quote rest ≡ None →
    with_front front (units n rest) ≡ total → total ≡ None
unfolding units
is_full front n rest total zero_left unquoted so_far =
    let one : with_front front (units n rest) ≡ None = rw (zero_left, unquoted) refl in
    sym so_far ∙ one

-- the case of a unit
pub goes_on : (front : List ℕ) (most i : ℕ) (rest : List ℕ) (b : ℕ) (after : List ℕ) (total : Units_read) → i < most →
    after_quote rest ≡ None → unit_at rest ≡ Some (b, after)
    → with_front front (units (most - i) rest) ≡ total → with_front (front ++ b ∷ []) (units (most - (i + 1)) after) ≡ total
unfolding units
goes_on front most i rest b after total lt unquoted unit so_far =
    let k : most - i ≡ suc (most - (i + 1)) = omega arith in
    let one : with_front front (units (most - i) rest) ≡ with_front (front ++ b ∷ []) (units (most - (i + 1)) after) =
    rw (k, unquoted, unit) (regroup front b (units (most - (i + 1)) after)) in
    sym one ∙ so_far
