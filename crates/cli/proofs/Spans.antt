-- The values of a sweep, one after the other.
use Rattle.std.proofs.Common.{◌≡◌, ℕ, suc, ◌+◌, ◌-◌, ◌*◌, ◌<◌, ◌≤◌, List, ◌∷◌, [], ◌++◌, ap, sym, ◌∙◌, arith, append_assoc}
use Rattle.cli.specs.Values.{values_from}

first_left : (value step left less : ℕ) → left ≡ suc less → values_from value step left ≡ value ∷ values_from (value + step) step less
first_left value step left less is = ap (values_from value step) is

-- the values so far with one more, and those that are left
pub next_value : (so_far more all : List ℕ) (value step more_by left : ℕ) → 0 < left → more_by ≡ step → more ≡ so_far ++ value ∷ [] →
    so_far ++ values_from value step left ≡ all → more ++ values_from (value + more_by) step (left - 1) ≡ all
next_value so_far more all value step more_by left some by is before =
    let one_more : left ≡ suc (left - 1) = omega arith in
    ap (λ (n : ℕ). more ++ values_from (value + n) step (left - 1)) by
    ∙ ap (λ (xs : List ℕ). xs ++ values_from (value + step) step (left - 1)) is
    ∙ append_assoc so_far (value ∷ []) (values_from (value + step) step (left - 1))
    ∙ ap (λ (xs : List ℕ). so_far ++ xs) (sym (first_left value step left (left - 1) one_more)) ∙ before

-- a value is below 2 to the 32, for each value for which there was room
pub next_fits : (value step more_by left count : ℕ) → 0 < left → more_by ≡ step → step < 4294967296 →
    value + 4294967296 * left ≤ 4294967296 * (count + 1) → value + more_by + 4294967296 * (left - 1) ≤ 4294967296 * (count + 1)
next_fits value step more_by left count some by small before = omega arith
