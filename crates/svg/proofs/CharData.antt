-- Escaped text is character data.
use Rattle.std.proofs.Common.{◌≡◌, ℕ, List, [], ◌∷◌, ◌++◌, true, false, refl, inl, inr}
use Rattle.std.proofs.lemmas.Bool.{cases_Bool}
use Rattle.std.specs.Prelude.{◌==◌}
use Rattle.svg.specs.Escaping.{is_char, escaped_byte, escaped_text, is_char_data}

-- A character that needs no reference, in front of character data, makes character data.
plain : (b : ℕ) (rest : List ℕ) → (b == 38) ≡ false → (b == 60) ≡ false → (b == 62) ≡ false → (b == 34) ≡ false → is_char b ≡ true →
    is_char_data rest ≡ true → is_char_data (b ∷ rest) ≡ true
plain b rest amp lt gt quot char known = rw (amp, lt, gt, quot, char) known

-- So does the escaped form of any byte.
escaped_byte-then : (b : ℕ) (rest : List ℕ) → is_char_data rest ≡ true → is_char_data (escaped_byte b ++ rest) ≡ true
escaped_byte-then b rest known =
    elim (cases_Bool (b == 38)) [
      | inl amp ↦ rw amp known
      | inr amp ↦
          elim (cases_Bool (b == 60)) [
            | inl lt ↦ rw (amp, lt) known
            | inr lt ↦
                elim (cases_Bool (b == 62)) [
                  | inl gt ↦ rw (amp, lt, gt) known
                  | inr gt ↦
                      elim (cases_Bool (b == 34)) [
                        | inl quot ↦ rw (amp, lt, gt, quot) known
                        | inr quot ↦
                            elim (cases_Bool (is_char b)) [
                              | inl char ↦ rw (amp, lt, gt, quot, char) (plain b rest amp lt gt quot char known)
                              | inr char ↦ rw (amp, lt, gt, quot, char) known
                            ]
                      ]
                ]
          ]
    ]

-- So escaped text is character data, by induction over its bytes.
pub is_char_data-escaped : (bytes : List ℕ) → is_char_data (escaped_text bytes) ≡ true
unfolding escaped_text
is_char_data-escaped [] = refl
is_char_data-escaped (b ∷ bs) = escaped_byte-then b (escaped_text bs) (is_char_data-escaped bs)
