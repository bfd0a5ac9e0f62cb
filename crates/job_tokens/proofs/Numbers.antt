-- The value of digits that are read one after the other.
use Rattle.std.proofs.Common.{◌≡◌, ℕ, ◌+◌, ◌-◌, ◌*◌, ◌<◌, ◌≤◌, true, false, leb, List, [], ◌∷◌, length, get_or, drop, Some, None, refl, sym, ap, ◌∙◌, add-one, drop-cons, arith}
use Rattle.std.proofs.lemmas.Bool.{le-leb}
use Rattle.job_tree.specs.declared.limits.TheConstants.{MAX_NUMBER}
use Rattle.job_tokens.specs.Lexing.{value_after, value_within}

-- one digit
pub value_step : (value : ℕ) (digits : List ℕ) (i d : ℕ) → i < length digits → d ≡ get_or digits i 0 - 48 →
    value_after value (drop i digits) ≡ value_after (10 * value + d) (drop (i + 1) digits)
unfolding value_after
value_step value digits i d lt digit =
    let e : drop i digits ≡ get_or digits i 0 ∷ drop (i + 1) digits = rw (add-one, drop-cons digits i 0) refl in
    rw (digit, e) refl

-- more digits never make a value smaller
pub value_after-ge : (value : ℕ) (digits : List ℕ) → value ≤ value_after value digits
unfolding value_after
value_after-ge value [] = omega arith
value_after-ge value (d ∷ ds) = omega (arith, value_after-ge (10 * value + (d - 48)) ds)

-- the case in which the value is above the maximum, whatever follows
pub is_above : (value : ℕ) (digits rest : List ℕ) → value_after value rest ≡ value_after 0 digits → MAX_NUMBER < value →
    value_within digits ≡ None
is_above value digits rest so_far above =
    let h : leb (value_after 0 digits) MAX_NUMBER ≡ false = le-leb-false _ _ (omega (arith, value_after-ge value rest)) in
    rw h refl
  where
    le-leb-false : (a b : ℕ) → b < a → leb a b ≡ false
    le-leb-false a b lt = grind arith

-- the case of the last digit
pub is_whole : (value : ℕ) (digits rest : List ℕ) → rest ≡ [] → value_after value rest ≡ value_after 0 digits → value ≤ MAX_NUMBER →
    value_within digits ≡ Some value
unfolding value_after
is_whole value digits rest none so_far within =
    let e : value_after 0 digits ≡ value = sym so_far ∙ ap (value_after value) none in
    let h : leb value MAX_NUMBER ≡ true = le-leb _ _ within in
    rw (e, h) refl
