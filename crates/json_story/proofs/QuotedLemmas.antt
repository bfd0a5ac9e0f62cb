-- What stands in a JSON string for a byte that a report shows.
use Rattle.std.proofs.Common.{◌≡◌, ◌≢◌, ℕ, ◌/◌, ◌%◌, ◌<◌, ◌≤◌, ◌==◌, true, false, List, [], ◌∷◌, ◌++◌, refl, ◌∙◌, arith, nat_lt}
use Rattle.std.proofs.lemmas.Bool.Decides.{nat_tests}
use Rattle.std.proofs.lemmas.List.{append_assoc}
use Rattle.json.specs.Print.{escape, escape_byte, escape_letter}
use Rattle.basics.specs.Hex.{hex_digit}
use Rattle.job_report.specs.Text.{byte_text, stands_for_itself}

no_letter : (b : ℕ) → 32 ≤ b → b ≢ 34 → b ≢ 92 → escape_letter b ≡ 0
no_letter b low quote slash = grind (arith, nat_tests)

pub plain_escape : (b : ℕ) → 32 ≤ b → b ≢ 34 → b ≢ 92 → escape_byte b ≡ b ∷ []
unfolding escape_byte
plain_escape b low quote slash =
    let above : nat_lt b 32 ≡ false = grind (arith, nat_tests) in
    rw (no_letter b low quote slash, above) refl

hex_escape : (n : ℕ) → n < 16 → escape_byte (hex_digit n) ≡ hex_digit n ∷ []
hex_escape n small =
    plain_escape (hex_digit n) (grind (arith, nat_tests)) (λ is. grind (arith, nat_tests)) (λ is. grind (arith, nat_tests))

pub escape_plain : (b : ℕ) → stands_for_itself b ≡ true → b ≢ 34 → escape (byte_text b) ≡ b ∷ []
escape_plain b plain quote =
    rw (plain, plain_escape b (grind (arith, nat_tests)) quote (λ is. grind (arith, nat_tests))) refl

pub escape_quote : escape (byte_text 34) ≡ 92 ∷ 34 ∷ []
unfolding escape_byte
escape_quote = refl

pub escape_slash : escape (byte_text 92) ≡ 92 ∷ 92 ∷ 92 ∷ 92 ∷ []
unfolding escape_byte
escape_slash = refl

at_slash : escape_byte 92 ≡ 92 ∷ 92 ∷ []
unfolding escape_byte
at_slash = refl

at_x : escape_byte 120 ≡ 120 ∷ []
unfolding escape_byte
at_x = refl

pub escape_other : (b : ℕ) → b < 256 → stands_for_itself b ≡ false → b ≢ 92
    → escape (byte_text b) ≡ 92 ∷ 92 ∷ 120 ∷ hex_digit (b / 16) ∷ hex_digit (b % 16) ∷ []
escape_other b small other slash =
    let no_slash : (b == 92) ≡ false = grind (arith, nat_tests) in
    rw (other, no_slash, at_slash, at_x, hex_escape (b / 16) (omega arith), hex_escape (b % 16) (omega arith)) refl

pub pushed_other : (b : ℕ) → b < 256 → stands_for_itself b ≡ false → b ≢ 92 → (old first second third : List ℕ)
    → first ≡ old ++ 92 ∷ 92 ∷ 120 ∷ [] → second ≡ first ++ hex_digit (b / 16) ∷ [] → third ≡ second ++ hex_digit (b % 16) ∷ []
    → third ≡ old ++ escape (byte_text b)
pushed_other b small other slash old first second third is_first is_second is_third =
    rw (is_third, is_second, is_first, escape_other b small other slash)
    (append_assoc (old ++ 92 ∷ 92 ∷ 120 ∷ []) (hex_digit (b / 16) ∷ []) (hex_digit (b % 16) ∷ [])
    ∙ append_assoc old (92 ∷ 92 ∷ 120 ∷ []) (hex_digit (b / 16) ∷ hex_digit (b % 16) ∷ []))
