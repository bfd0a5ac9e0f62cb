-- Nothing in a word is escaped.
use Rattle.std.proofs.Common.{◌≡◌, ℕ, ◌≤◌, Bool, true, false, List, [], ◌∷◌, ◌++◌, refl, ap, inl, inr, arith, nat_le, length}
use Rattle.std.proofs.lemmas.Bool.Decides.{nat_tests}
use Rattle.std.specs.Prelude.{◌&&◌, ◌||◌, ◌==◌, ◌⊎◌}
use Rattle.std.specs.List.{flat_map, list_all}
use Rattle.serde_json.specs.Data.{string}
use Rattle.job_tree.specs.Words.{is_letter, is_digit, is_word_byte, starts_word}
use Rattle.job_report.specs.Text.{byte_text, stands_for_itself}
use Rattle.exceptions.specs.Texts.{index_text}
use Rattle.json_story.specs.Laws.{LabelsAreAsInAReport}

both : (a b : Bool) → (a && b) ≡ true → (a ≡ true) × (b ≡ true)
both true true h = (refl, refl)
both true false h = (refl, h)
both false b h = (h, absurd (let f : false ≡ true = h in cc))

either_of : (a b : Bool) → (a || b) ≡ true → (a ≡ true) ⊎ (b ≡ true)
either_of true b h = inl refl
either_of false true h = inr refl
either_of false false h = inl h

le_of_test : (m n : ℕ) → nat_le m n ≡ true → m ≤ n
le_of_test m n h = grind (arith, nat_tests)

eq_of_test : (m n : ℕ) → (m == n) ≡ true → m ≡ n
eq_of_test m n h = grind (arith, nat_tests)

plain : (b : ℕ) → 32 ≤ b → b ≤ 126 → (b ≡ 92 → ⊥) → stands_for_itself b ≡ true
plain b low high other = grind (arith, nat_tests)

range_plain : (low high b : ℕ) → 32 ≤ low → high ≤ 126 → (low ≤ 92 → 92 ≤ high → ⊥) → (nat_le low b && nat_le b high) ≡ true →
    stands_for_itself b ≡ true
range_plain low high b from to none h =
    let ends = both (nat_le low b) (nat_le b high) h in
    let above = le_of_test low b ends.0 in
    let below = le_of_test b high ends.1 in
    plain b (omega arith) (omega arith) (λ is. none (omega arith) (omega arith))

letter_plain : (b : ℕ) → is_letter b ≡ true → stands_for_itself b ≡ true
letter_plain b h =
    elim (either_of (nat_le 65 b && nat_le b 90) (nat_le 97 b && nat_le b 122) h) [
      | inl capital ↦ range_plain 65 90 b (omega arith) (omega arith) (λ low high. absurd (omega arith)) capital
      | inr small ↦ range_plain 97 122 b (omega arith) (omega arith) (λ low high. absurd (omega arith)) small
    ]

word_byte_plain : (b : ℕ) → is_word_byte b ≡ true → stands_for_itself b ≡ true
word_byte_plain b h =
    elim (either_of (is_letter b || is_digit b) (b == 95) h) [
      | inl known ↦
          elim (either_of (is_letter b) (is_digit b) known) [
            | inl letter ↦ letter_plain b letter
            | inr digit ↦ range_plain 48 57 b (omega arith) (omega arith) (λ low high. absurd (omega arith)) digit
          ]
      | inr line ↦ let is = eq_of_test b 95 line in plain b (omega arith) (omega arith) (λ other. absurd (omega arith))
    ]

escaped_plain : (b : ℕ) → stands_for_itself b ≡ true → byte_text b ≡ b ∷ []
escaped_plain b h = rw h refl

bytes_plain : (bs : List ℕ) → list_all is_word_byte bs ≡ true → flat_map byte_text bs ≡ bs
bytes_plain [] h = refl
bytes_plain (b ∷ bs) h =
    let parts = both (is_word_byte b) (list_all is_word_byte bs) h in
    let first : byte_text b ≡ b ∷ [] = escaped_plain b (word_byte_plain b parts.0) in
    rw (first, bytes_plain bs parts.1) refl

pub labels_as_in_a_report : LabelsAreAsInAReport
labels_as_in_a_report label h =
    let word = both (starts_word label.name && list_all is_word_byte label.name) (nat_le (length label.name) 32) h in
    let bytes = both (starts_word label.name) (list_all is_word_byte label.name) word.0 in
    ap (λ (bs : List ℕ). string (bs ++ flat_map index_text label.indices)) (bytes_plain label.name bytes.1)
