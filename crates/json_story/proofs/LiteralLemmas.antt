-- What stands in a JSON string for a byte of a text.
use Rattle.std.proofs.Common.{◌≡◌, ℕ, ◌/◌, ◌%◌, ◌<◌, ◌≤◌, true, false, List, [], ◌∷◌, ◌++◌, refl, ◌∙◌, arith, nat_lt}
use Rattle.std.proofs.lemmas.Bool.Decides.{nat_tests}
use Rattle.std.proofs.lemmas.List.{append_assoc}
use Rattle.std.specs.Char.{digit_char}
use Rattle.basics.specs.Hex.{hex_digit}
use Rattle.json.specs.Print.{escape_byte, escape_letter}

pub escape_short : (b : ℕ) → 0 < escape_letter b → escape_byte b ≡ 92 ∷ escape_letter b ∷ []
unfolding escape_byte
escape_short b short =
    let above : nat_lt 0 (escape_letter b) ≡ true = grind (arith, nat_tests) in
    rw above refl

pub escape_plain : (b : ℕ) → escape_letter b ≤ 0 → 32 ≤ b → escape_byte b ≡ b ∷ []
unfolding escape_byte
escape_plain b no_letter low =
    let below : nat_lt 0 (escape_letter b) ≡ false = grind (arith, nat_tests) in
    let above : nat_lt b 32 ≡ false = grind (arith, nat_tests) in
    rw (below, above) refl

pub escape_long : (b : ℕ) → escape_letter b ≤ 0 → b < 32 → escape_byte b ≡ 92 ∷ 117 ∷ 48 ∷ 48 ∷ digit_char (b / 16) ∷ digit_char (b % 16) ∷ []
unfolding escape_byte
escape_long b no_letter low =
    let below : nat_lt 0 (escape_letter b) ≡ false = grind (arith, nat_tests) in
    let above : nat_lt b 32 ≡ true = grind (arith, nat_tests) in
    rw (below, above) refl

-- a backslash and a letter
pub pushed_short : (b letter : ℕ) (old first new : List ℕ) → letter ≡ escape_letter b → 0 < letter → first ≡ old ++ 92 ∷ [] →
    new ≡ first ++ letter ∷ [] → new ≡ old ++ escape_byte b
pushed_short b letter old first new is short is_first is_new =
    rw (is_new, is_first, escape_short b (omega (arith, is)), is) (append_assoc old (92 ∷ []) (escape_letter b ∷ []))

same_digit : (n : ℕ) → hex_digit n ≡ digit_char n
same_digit n = grind (arith, nat_tests)

-- a backslash, `u00` and two digits
pub pushed_long : (b letter : ℕ) (old first second new : List ℕ) → letter ≡ escape_letter b → letter ≤ 0 → b < 32 →
    first ≡ old ++ 92 ∷ 117 ∷ 48 ∷ 48 ∷ [] → second ≡ first ++ hex_digit (b / 16) ∷ [] → new ≡ second ++ hex_digit (b % 16) ∷ []
    → new ≡ old ++ escape_byte b
pushed_long b letter old first second new is none low is_first is_second is_new =
    rw (is_new, is_second, is_first, same_digit (b / 16), same_digit (b % 16), escape_long b (omega (arith, is)) low)
    (append_assoc (old ++ 92 ∷ 117 ∷ 48 ∷ 48 ∷ []) (digit_char (b / 16) ∷ []) (digit_char (b % 16) ∷ [])
    ∙ append_assoc old (92 ∷ 117 ∷ 48 ∷ 48 ∷ []) (digit_char (b / 16) ∷ digit_char (b % 16) ∷ []))
