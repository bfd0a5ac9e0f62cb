-- Tokens are read back from their canonical bytes.
use Rattle.std.proofs.Common.{◌≡◌, ℕ, ◌+◌, ◌-◌, ◌<◌, ◌≤◌, Bool, true, false, cond, eqb, ◌&&◌, ◌||◌, leb, List, [], ◌∷◌, ◌++◌, length, Option, Some, None, ◌⊎◌, inl, inr, refl, sym, ap, subst, ◌∙◌, append_assoc, arith}
use Rattle.std.specs.List.{prefix_len, list_all}
use Rattle.std.specs.Fmt.{decimal}
use Rattle.std.proofs.lemmas.Bool.{cond-true, leb-true, eqb-true}
use Rattle.std.proofs.lemmas.Fmt.{decimal_nonempty}
use Rattle.std.proofs.lemmas.List.{length-append}
use Rattle.job_tree.specs.Words.{is_letter, is_digit, is_word_byte, is_word, is_text, starts_word}
use Rattle.job_tokens.specs.declared.token.Mark.{Mark}
use Rattle.job_tokens.specs.declared.token.Mark.TheVariants as mark
use Rattle.job_tokens.specs.declared.token.Shape.{Shape}
use Rattle.job_tokens.specs.declared.token.Shape.TheVariants as shape
use Rattle.job_tokens.specs.declared.token.Token.{Token}
use Rattle.job_tokens.specs.Shapes.{shapes_of}
use Rattle.job_tree.specs.declared.limits.TheConstants.{MAX_NUMBER}
use Rattle.job_tokens.specs.Lexing.{is_blank, separates, past, skipped, after_blanks, token_at, word_at, number_at, Lexes}
use Rattle.job_tokens.specs.Canon.{mark_byte, token, is_wordlike, gap, canon_after}
use Rattle.job_tokens.proofs.Round_bytes.{and_parts, either_way}
use Rattle.job_tokens.proofs.Round_words.{word_again, token_unless_word, token_unless_number}
use Rattle.job_tokens.proofs.Round_numbers.{number_at-again, digits_of_number, digit_in_word}
use Rattle.job_tokens.proofs.Round_strings.{AreBytes, string_again}

-- the tokens that have a canonical text which is read back
abbrev pub IsWritable : Shape → Type 0
IsWritable (shape.Word word) = is_word word ≡ true
IsWritable (shape.Number None) = ⊥
IsWritable (shape.Number (Some n)) = n ≤ MAX_NUMBER
IsWritable (shape.Text text) = (is_text text ≡ true) × AreBytes text
IsWritable (shape.Mark mark) = Unit {0}

abbrev pub AreWritable : List Shape → Type 0
AreWritable [] = Unit {0}
AreWritable (s ∷ ss) = IsWritable s × AreWritable ss

-- ---- first bytes

-- a blank is one of four bytes
blank_cases : (P : ℕ → Type 0) (b : ℕ) → P 32 → P 9 → P 10 → P 13 → is_blank b ≡ true → P b
blank_cases P b p32 p9 p10 p13 is = first (either_way (eqb b 32)) (either_way (eqb b 9)) (either_way (eqb b 10))
  where
    at : (n : ℕ) → eqb b n ≡ true → P n → P b
    at n e p = subst P (sym (eqb-true b n e)) p

    last : (eqb b 32 ≡ false) → (eqb b 9 ≡ false) → (eqb b 10 ≡ false) → P b
    last e f g = at 13 (sym (ap (λ (x : Bool). (x || eqb b 9) || (eqb b 10 || eqb b 13)) e
        ∙ ap (λ (x : Bool). (false || x) || (eqb b 10 || eqb b 13)) f ∙ ap (λ (x : Bool). (false || false) || (x || eqb b 13)) g) ∙ is) p13

    first : ((eqb b 32 ≡ true) ⊎ (eqb b 32 ≡ false)) → ((eqb b 9 ≡ true) ⊎ (eqb b 9 ≡ false)) → ((eqb b 10 ≡ true) ⊎ (eqb b 10 ≡ false)) →
        P b
    first (inl e) f g = at 32 e p32
    first (inr e) (inl f) g = at 9 f p9
    first (inr e) (inr f) (inl g) = at 10 g p10
    first (inr e) (inr f) (inr g) = last e f g

true_not_false : (b : Bool) → b ≡ true → b ≡ false → ⊥
true_not_false b p q = cc

word_byte_not_blank : (b : ℕ) → is_word_byte b ≡ true → is_blank b ≡ false
word_byte_not_blank b is = by_test (either_way (is_blank b))
  where
    by_test : (is_blank b ≡ true) ⊎ (is_blank b ≡ false) → is_blank b ≡ false
    by_test (inl blank) = absurd (true_not_false (is_word_byte b) is
        (blank_cases (λ x. is_word_byte x ≡ false) b refl refl refl refl blank))
    by_test (inr none) = none

-- a byte of a word begins no comment
word_byte_no_comment : (b : ℕ) → is_word_byte b ≡ true → eqb b 35 ≡ false
word_byte_no_comment b is = by_test (either_way (eqb b 35))
  where
    by_test : (eqb b 35 ≡ true) ⊎ (eqb b 35 ≡ false) → eqb b 35 ≡ false
    by_test (inl t) = absurd (true_not_false (is_word_byte b) is (subst (λ (x : ℕ). is_word_byte x ≡ false) (sym (eqb-true b 35 t)) refl))
    by_test (inr f) = f

word_byte_begins : (b : ℕ) → is_word_byte b ≡ true → separates true false b ≡ None
word_byte_begins b is = rw (word_byte_not_blank b is, word_byte_no_comment b is) refl

-- a letter is a byte of a word
pub letter_in_word : (b : ℕ) → is_letter b ≡ true → is_word_byte b ≡ true
letter_in_word b is = or_left (is_letter b) (is_digit b) (eqb b 95) is
  where
    or_left : (x y z : Bool) → x ≡ true → ((x || y) || z) ≡ true
    or_left true y z e = refl
    or_left false y z e = absurd cc

-- the first byte is neither a blank nor the first of a comment
abbrev pub BeginsAToken : List ℕ → Type 0
BeginsAToken [] = ⊥
BeginsAToken (b ∷ bytes) = separates true false b ≡ None

-- such a byte begins a token whether the text may have comments or not
begins_in_each : (comments : Bool) (b : ℕ) → separates true false b ≡ None → separates comments false b ≡ None
begins_in_each true b begins = begins
begins_in_each false b begins = by_test (either_way (is_blank b))
  where
    by_test : (is_blank b ≡ true) ⊎ (is_blank b ≡ false) → separates false false b ≡ None
    by_test (inl t) = absurd (blank_begins (ap (λ (x : Bool). cond x (Some false) (cond (true && eqb b 35) (Some true) None)) t) begins)
      where
        blank_begins : {o : Option Bool} {x : Bool} → o ≡ Some x → o ≡ None → ⊥
        blank_begins p q = cc
    by_test (inr f) = rw f refl

-- before a token there are no blanks to leave out
pub no_blanks : (comments : Bool) (bytes : List ℕ) → BeginsAToken bytes → after_blanks comments bytes ≡ bytes
no_blanks comments [] begins = absurd begins
no_blanks comments (b ∷ bytes) begins =
    ap (λ (o : Option Bool). past o (b ∷ bytes) (λ (further : Bool). skipped comments further bytes)) (begins_in_each comments b begins)

after_gap : (comments x y : Bool) (bytes : List ℕ) → BeginsAToken bytes → after_blanks comments (gap x y ++ bytes) ≡ bytes
after_gap comments true true bytes begins = no_blanks comments bytes begins
after_gap comments true false bytes begins = no_blanks comments bytes begins
after_gap comments false true bytes begins = no_blanks comments bytes begins
after_gap comments false false bytes begins = no_blanks comments bytes begins

mark_begins : (m : Mark) → separates true false (mark_byte m) ≡ None
mark_begins mark.Open = refl
mark_begins mark.Close = refl
mark_begins mark.Semicolon = refl

-- digits that begin in this way
digits_begin : (ds rest : List ℕ) → 0 < length ds → list_all is_digit ds ≡ true → (b : ℕ) × (others : List ℕ) × (ds ≡ b ∷ others)
    × (is_digit b ≡ true)
digits_begin [] rest some all = absurd (omega arith)
digits_begin (b ∷ ds) rest some all = (b, ds, refl, (and_parts (is_digit b) (list_all is_digit ds) all).0)

-- the canonical text of a token begins with neither a blank nor a comment
pub token_begins : (s : Shape) (rest : List ℕ) → IsWritable s → BeginsAToken (token s ++ rest)
token_begins (shape.Word []) rest is = absurd cc
token_begins (shape.Word (b ∷ word)) rest is =
    let parts = and_parts (starts_word (b ∷ word) && list_all is_word_byte (b ∷ word)) (leb (length (b ∷ word)) 32) is in
    word_byte_begins b (letter_in_word b (and_parts (is_letter b) (list_all is_word_byte (b ∷ word)) parts.0).0)
token_begins (shape.Number None) rest is = absurd is
token_begins (shape.Number (Some n)) rest le =
    let are = digits_of_number n (omega arith) in
    let first = digits_begin (decimal n) rest (decimal_nonempty n (omega arith)) are.all in
    subst (λ (ds : List ℕ). BeginsAToken (ds ++ rest)) (sym first.2) (word_byte_begins first.0 (digit_in_word first.0 first.3))
token_begins (shape.Text text) rest is = refl
token_begins (shape.Mark m) rest is = mark_begins m

-- ---- one token

not_letter : (b : ℕ) → is_digit b ≡ true → is_letter b ≡ false
not_letter b is =
    let parts = and_parts (leb 48 b) (leb b 57) is in
    let small : b ≤ 57 = leb-true b 57 parts.1 in
    let capital : leb 65 b ≡ false = grind arith in
    let small_letter : leb 97 b ≡ false = grind arith in
    rw (capital, small_letter) refl

number_begins : (b : ℕ) (rest : List ℕ) → is_digit b ≡ true → token_at (b ∷ rest) ≡ number_at (b ∷ rest)
number_begins b rest is =
    ap (λ (x : Bool). cond x (word_at (b ∷ rest)) (token_unless_word b rest)) (not_letter b is)
    ∙ cond-true (is_digit b) (number_at (b ∷ rest)) (token_unless_number b rest) is

number_again : (n : ℕ) (rest : List ℕ) → n ≤ MAX_NUMBER → prefix_len is_word_byte rest ≡ 0 →
    token_at (decimal n ++ rest) ≡ Some (shape.Number (Some n), rest)
number_again n rest le stops =
    let are = digits_of_number n (omega arith) in
    let first = digits_begin (decimal n) rest (decimal_nonempty n (omega arith)) are.all in
    let begins : token_at (decimal n ++ rest) ≡ number_at (decimal n ++ rest) =
    subst (λ (ds : List ℕ). token_at (ds ++ rest) ≡ number_at (ds ++ rest)) (sym first.2)
    (number_begins first.0 (first.1 ++ rest) first.3) in
    begins ∙ number_at-again n rest le stops

mark_again : (m : Mark) (rest : List ℕ) → token_at (mark_byte m ∷ rest) ≡ Some (shape.Mark m, rest)
mark_again mark.Open rest = refl
mark_again mark.Close rest = refl
mark_again mark.Semicolon rest = refl

-- after a word or a number, something that is no part of it
abbrev pub StopsWord : Bool → List ℕ → Type 0
StopsWord true rest = prefix_len is_word_byte rest ≡ 0
StopsWord false rest = Unit {0}

-- a token is read back from its canonical text, whatever follows it
pub token_again : (s : Shape) (rest : List ℕ) → IsWritable s → StopsWord (is_wordlike s) rest → token_at (token s ++ rest) ≡ Some (s, rest)
token_again (shape.Word word) rest is stops = word_again word rest is stops
token_again (shape.Number None) rest is stops = absurd is
token_again (shape.Number (Some n)) rest le stops = number_again n rest le stops
token_again (shape.Text text) rest is stops =
    string_again text rest is.0 (leb-true (length text) 64 (and_parts (leb 1 (length text)) (leb (length text) 64) is.0).1) is.1
token_again (shape.Mark m) rest is stops = mark_again m rest

-- ---- all tokens

-- a mark ends a word
pub mark_stops : (m : Mark) (rest : List ℕ) → prefix_len is_word_byte (mark_byte m ∷ rest) ≡ 0
mark_stops mark.Open rest = refl
mark_stops mark.Close rest = refl
mark_stops mark.Semicolon rest = refl

canon_stops : (before : Bool) (ss : List Shape) → StopsWord before (canon_after before ss)
canon_stops false ss = tt
canon_stops true [] = refl
canon_stops true (shape.Word word ∷ ss) = refl
canon_stops true (shape.Number n ∷ ss) = refl
canon_stops true (shape.Text text ∷ ss) = refl
canon_stops true (shape.Mark m ∷ ss) = mark_stops m (canon_after false ss)

-- these bytes are read as tokens of these shapes
abbrev pub LexesAs : Bool → ℕ → List ℕ → List Shape → Type 0
LexesAs comments end bytes ss = (ts : List Token) × Lexes comments end bytes ts None × (shapes_of ts ≡ ss)

-- the canonical text of tokens that can be written is read as these tokens, to its end
pub canon_lexes : (comments : Bool) (end : ℕ) (before : Bool) (ss : List Shape) → AreWritable ss → length (canon_after before ss) ≤ end →
    LexesAs comments end (canon_after before ss) ss
canon_lexes comments end before [] are le = ([], refl, refl)
canon_lexes comments end before (s ∷ ss) are le =
    let rest = canon_after (is_wordlike s) ss in
    let bytes = token s ++ rest in
    let all : (gap before (is_wordlike s) ++ token s) ++ rest ≡ gap before (is_wordlike s) ++ bytes =
    append_assoc (gap before (is_wordlike s)) (token s) rest in
    let len : length (gap before (is_wordlike s)) + length bytes ≤ end =
    omega (arith, le, ap (length {A = ℕ}) all, length-append (gap before (is_wordlike s)) bytes) in
    let bound : length rest ≤ end = omega (arith, len, length-append (token s) rest) in
    let others = canon_lexes comments end (is_wordlike s) ss are.1 bound in
    let following : after_blanks comments ((gap before (is_wordlike s) ++ token s) ++ rest) ≡ bytes =
    ap (after_blanks comments) all ∙ after_gap comments before (is_wordlike s) bytes (token_begins s rest are.0) in
    let found : token_at (after_blanks comments ((gap before (is_wordlike s) ++ token s) ++ rest)) ≡ Some (s, rest) =
    ap token_at following ∙ token_again s rest are.0 (canon_stops (is_wordlike s) ss) in
    let place : end - length bytes + length (after_blanks comments ((gap before (is_wordlike s) ++ token s) ++ rest)) ≡ end =
    omega (arith, ap (length {A = ℕ}) following, len) in
    (record { at = end - length bytes; shape = s } ∷ others.0, (rest, found, place, others.1), ap (λ (x : List Shape). s ∷ x) others.2)
