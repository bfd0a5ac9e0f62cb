-- Canonical texts have only bytes that a text of each format may have.
use Rattle.std.proofs.Common.{◌≡◌, ℕ, ◌+◌, ◌/◌, ◌%◌, ◌<◌, ◌≤◌, Bool, true, false, eqb, ◌&&◌, ◌||◌, leb, ltb, List, [], ◌∷◌, ◌++◌, length, Some, None, ◌⊎◌, inl, inr, refl, ap, ◌∙◌, arith}
use Rattle.std.specs.List.{list_all, flat_map}
use Rattle.std.specs.Fmt.{decimal}
use Rattle.std.proofs.lemmas.Bool.{leb-true, ltb-true, eqb-true}
use Rattle.std.proofs.lemmas.List.Folds.{list_all-append}
use Rattle.job_tree.specs.Words.{is_letter, is_digit, is_word_byte, starts_word}
use Rattle.job_tokens.specs.declared.token.Mark.{Mark}
use Rattle.job_tokens.specs.declared.token.Mark.TheVariants as mark
use Rattle.job_tokens.specs.declared.token.Shape.{Shape}
use Rattle.job_tokens.specs.declared.token.Shape.TheVariants as shape
use Rattle.job_tokens.specs.Lexing.{is_plain, is_blank}
use Rattle.basics.specs.Hex.{hex_digit}
use Rattle.job_tokens.specs.Canon.{unit, mark_byte, token, is_wordlike, gap, canon_after}
use Rattle.job_tokens.proofs.Round_bytes.{and_parts, and_whole, either_way}
use Rattle.job_tokens.proofs.Round_numbers.{digits_of_number}
use Rattle.job_tokens.proofs.Round_strings.{AreBytes}
use Rattle.job_tokens.proofs.Round_tokens.{IsWritable, AreWritable}

-- printable bytes, and blanks
abbrev pub is_small : ℕ → Bool
is_small b = is_plain b || is_blank b

or_left : (x y : Bool) → x ≡ true → (x || y) ≡ true
or_left x y e = rw e refl

small : (b : ℕ) → 32 ≤ b → b ≤ 126 → is_small b ≡ true
small b low high = or_left (is_plain b) (is_blank b) (and_whole (leb 32 b) (leb b 126) (grind arith) (grind arith))

or_cases : (a b : Bool) → (a || b) ≡ true → (a ≡ true) ⊎ (b ≡ true)
or_cases true b e = inl refl
or_cases false b e = inr e

all_weaker : (p q : ℕ → Bool) (xs : List ℕ) → ((b : ℕ) → p b ≡ true → q b ≡ true) → list_all p xs ≡ true → list_all q xs ≡ true
all_weaker p q [] weaker all = refl
all_weaker p q (x ∷ xs) weaker all =
    let parts = and_parts (p x) (list_all p xs) all in
    and_whole (q x) (list_all q xs) (weaker x parts.0) (all_weaker p q xs weaker parts.1)

all_append : (xs ys : List ℕ) → list_all is_small xs ≡ true → list_all is_small ys ≡ true → list_all is_small (xs ++ ys) ≡ true
all_append xs ys p q = list_all-append is_small xs ys ∙ and_whole (list_all is_small xs) (list_all is_small ys) p q

digit_small : (b : ℕ) → is_digit b ≡ true → is_small b ≡ true
digit_small b is =
    let parts = and_parts (leb 48 b) (leb b 57) is in
    small b (omega (arith, leb-true 48 b parts.0)) (omega (arith, leb-true b 57 parts.1))

letter_small : (b : ℕ) → is_letter b ≡ true → is_small b ≡ true
letter_small b is = by_case (or_cases (leb 65 b && leb b 90) (leb 97 b && leb b 122) is)
  where
    by_case : ((leb 65 b && leb b 90) ≡ true) ⊎ ((leb 97 b && leb b 122) ≡ true) → is_small b ≡ true
    by_case (inl t) =
        let parts = and_parts (leb 65 b) (leb b 90) t in
        small b (omega (arith, leb-true 65 b parts.0)) (omega (arith, leb-true b 90 parts.1))
    by_case (inr t) =
        let parts = and_parts (leb 97 b) (leb b 122) t in
        small b (omega (arith, leb-true 97 b parts.0)) (omega (arith, leb-true b 122 parts.1))

word_byte_small : (b : ℕ) → is_word_byte b ≡ true → is_small b ≡ true
word_byte_small b is = by_line (or_cases (is_letter b || is_digit b) (eqb b 95) is)
  where
    by_letter : (is_letter b ≡ true) ⊎ (is_digit b ≡ true) → is_small b ≡ true
    by_letter (inl t) = letter_small b t
    by_letter (inr t) = digit_small b t

    by_line : ((is_letter b || is_digit b) ≡ true) ⊎ (eqb b 95 ≡ true) → is_small b ≡ true
    by_line (inl t) = by_letter (or_cases (is_letter b) (is_digit b) t)
    by_line (inr t) = small b (omega (arith, eqb-true b 95 t)) (omega (arith, eqb-true b 95 t))

hex_small : (d : ℕ) → d < 16 → is_small (hex_digit d) ≡ true
hex_small d lt = by_test (either_way (ltb d 10))
  where
    by_test : (ltb d 10 ≡ true) ⊎ (ltb d 10 ≡ false) → is_small (hex_digit d) ≡ true
    by_test (inl t) = rw t (small (d + 48) (omega arith) (omega (arith, ltb-true d 10 t)))
    by_test (inr f) = rw f (small (d + 87) (omega arith) (omega arith))

unit_small : (b : ℕ) → b < 256 → list_all is_small (unit b) ≡ true
unit_small b lt = by_escape (either_way (eqb b 34 || eqb b 92))
  where
    one : (x : ℕ) → is_small x ≡ true → list_all is_small (x ∷ []) ≡ true
    one x e = and_whole (is_small x) true e refl

    escaped : (eqb b 34) ≡ true ⊎ (eqb b 92) ≡ true → is_small b ≡ true
    escaped (inl t) = small b (omega (arith, eqb-true b 34 t)) (omega (arith, eqb-true b 34 t))
    escaped (inr t) = small b (omega (arith, eqb-true b 92 t)) (omega (arith, eqb-true b 92 t))

    by_plain : (eqb b 34 || eqb b 92) ≡ false → (is_plain b ≡ true) ⊎ (is_plain b ≡ false) → list_all is_small (unit b) ≡ true
    by_plain e (inl t) =
        let spelled : unit b ≡ b ∷ [] = rw (e, t) refl in
        ap (list_all is_small) spelled ∙ one b (or_left (is_plain b) (is_blank b) t)
    by_plain e (inr f) =
        let spelled : unit b ≡ 92 ∷ 120 ∷ hex_digit (b / 16) ∷ hex_digit (b % 16) ∷ [] = rw (e, f) refl in
        ap (list_all is_small) spelled ∙ and_whole (is_small (hex_digit (b / 16))) (is_small (hex_digit (b % 16)) && true)
        (hex_small (b / 16) (omega arith)) (one (hex_digit (b % 16)) (hex_small (b % 16) (omega arith)))

    by_escape : ((eqb b 34 || eqb b 92) ≡ true) ⊎ ((eqb b 34 || eqb b 92) ≡ false) → list_all is_small (unit b) ≡ true
    by_escape (inl e) =
        let spelled : unit b ≡ 92 ∷ b ∷ [] = rw e refl in
        ap (list_all is_small) spelled ∙ one b (escaped (or_cases (eqb b 34) (eqb b 92) e))
    by_escape (inr e) = by_plain e (either_way (is_plain b))

units_small : (text : List ℕ) → AreBytes text → list_all is_small (flat_map unit text) ≡ true
units_small [] bytes = refl
units_small (b ∷ text) bytes = all_append (unit b) (flat_map unit text) (unit_small b bytes.0) (units_small text bytes.1)

mark_small : (m : Mark) → list_all is_small (mark_byte m ∷ []) ≡ true
mark_small mark.Open = refl
mark_small mark.Close = refl
mark_small mark.Semicolon = refl

token_small : (s : Shape) → IsWritable s → list_all is_small (token s) ≡ true
token_small (shape.Word word) is =
    let parts = and_parts (starts_word word && list_all is_word_byte word) (leb (length word) 32) is in
    all_weaker is_word_byte is_small word word_byte_small (and_parts (starts_word word) (list_all is_word_byte word) parts.0).1
token_small (shape.Number None) is = absurd is
token_small (shape.Number (Some n)) le = all_weaker is_digit is_small (decimal n) digit_small (digits_of_number n (omega arith)).all
token_small (shape.Text text) is = all_append (flat_map unit text) (34 ∷ []) (units_small text is.1) refl
token_small (shape.Mark m) is = mark_small m

gap_small : (x y : Bool) → list_all is_small (gap x y) ≡ true
gap_small true true = refl
gap_small true false = refl
gap_small false true = refl
gap_small false false = refl

-- the canonical text of tokens that can be written has only such bytes
pub canon_small : (before : Bool) (ss : List Shape) → AreWritable ss → list_all is_small (canon_after before ss) ≡ true
canon_small before [] are = refl
canon_small before (s ∷ ss) are =
    all_append (gap before (is_wordlike s) ++ token s) (canon_after (is_wordlike s) ss)
    (all_append (gap before (is_wordlike s)) (token s) (gap_small before (is_wordlike s)) (token_small s are.0))
    (canon_small (is_wordlike s) ss are.1)
