-- What a token is that was read, and that no text of the same tokens is shorter than the canonical one.
use Rattle.std.proofs.Common.{◌≡◌, ℕ, zero, suc, ◌+◌, ◌-◌, ◌*◌, ◌^◌, ◌<◌, ◌≤◌, Bool, true, false, cond, eqb, leb, List, [], ◌∷◌, ◌++◌, length, take, drop, Option, Some, None, ◌⊎◌, inl, inr, refl, sym, ap, subst, arith}
use Rattle.std.specs.List.{prefix_len, list_all, flat_map}
use Rattle.std.specs.Fmt.{decimal}
use Rattle.std.proofs.lemmas.Bool.{leb-true, eqb-true}
use Rattle.std.proofs.lemmas.Fmt.{length-decimal-le}
use Rattle.std.proofs.lemmas.List.{length-append, length-take, length-drop}
use Rattle.std.proofs.Math.Nat.{mul-le-mul_right, pow-suc}
use Rattle.job_tree.specs.Words.{is_letter, is_digit, is_word_byte, is_word, is_text}
use Rattle.job_tokens.specs.declared.token.Mark.TheVariants as mark
use Rattle.job_tokens.specs.declared.token.Shape.{Shape}
use Rattle.job_tokens.specs.declared.token.Shape.TheVariants as shape
use Rattle.job_tokens.specs.declared.token.Token.{Token}
use Rattle.job_tokens.specs.Shapes.{shapes_of}
use Rattle.job_tree.specs.declared.limits.TheConstants.{MAX_NUMBER}
use Rattle.job_tokens.specs.Lexing.{Read, Unit_read, Units_read, after_blanks, word_at, number_at, number_of, value_after, value_within, has_leading_zero, goes_on, unit_at, after_quote, unless_ended, unit_then, with_unit, units, string_of, string_at, token_at, separates, past, skipped, Lexes}
use Rattle.job_tokens.specs.Canon.{unit, token, is_wordlike, gap, canon_after}
use Rattle.job_tokens.proofs.Round_bytes.{and_parts, chosen, taken_passes, left_stops}
use Rattle.job_tokens.proofs.Round_words.{token_unless_word, token_unless_number}
use Rattle.job_tokens.proofs.Round_numbers.{digit_in_word}
use Rattle.job_tokens.proofs.Round_strings.{AreBytes}
use Rattle.job_tokens.proofs.Round_tokens.{letter_in_word}
use Rattle.job_tokens.proofs.Shortest_texts.{IsUnit, read_unit}

-- ---- a string

-- a string, no longer in its canonical form than in the text; the opening quote is not counted
record IsString (bytes text rest : List ℕ) : Type 0 where
  small : AreBytes text
  shorter : length (flat_map unit text) + 1 + length rest ≤ length bytes

abbrev found_units : List ℕ × List ℕ → Units_read
found_units p = Some p

no_units : (p : List ℕ × List ℕ) → None ≡ found_units p → ⊥
no_units p e = cc

same_units : (p q : List ℕ × List ℕ) → found_units p ≡ found_units q → p ≡ q
same_units p q e = cc

string_is : (bytes : List ℕ) (p q : List ℕ × List ℕ) → found_units p ≡ found_units q → IsString bytes p.0 p.1 → IsString bytes q.0 q.1
string_is bytes p q e is = subst (λ (x : List ℕ × List ℕ). IsString bytes x.0 x.1) (same_units p q e) is

quote_shorter : (bytes rest : List ℕ) → after_quote bytes ≡ Some rest → length rest + 1 ≤ length bytes
quote_shorter [] rest e = absurd cc
quote_shorter (b ∷ bytes) rest e = by_test (chosen (eqb b 34) (Some bytes) None (Some rest) e)
  where
    by_test : (eqb b 34 ≡ true) × (Some bytes ≡ Some rest) ⊎ (eqb b 34 ≡ false) × (None ≡ Some rest) → length rest + 1 ≤ length (b ∷ bytes)
    by_test (inl (t, e)) = let s : bytes ≡ rest = cc in omega (arith, ap (length {A = ℕ}) s)
    by_test (inr (f, e)) = absurd cc

empty_string : (bytes after : List ℕ) (p : List ℕ × List ℕ) → after_quote bytes ≡ Some after → found_units ([], after) ≡ found_units p →
    IsString bytes p.0 p.1
empty_string bytes after p q e =
    string_is bytes ([], after) p e (record { small = tt; shorter = omega (arith, quote_shorter bytes after q) })

read_string : (n : ℕ) (bytes : List ℕ) (p : List ℕ × List ℕ) → units n bytes ≡ found_units p → IsString bytes p.0 p.1
unfolding units
read_string zero bytes p e = by_quote (after_quote bytes) refl e
  where
    by_quote : (q : Option (List ℕ)) → after_quote bytes ≡ q → unless_ended q None ≡ found_units p → IsString bytes p.0 p.1
    by_quote None q e = absurd (no_units p e)
    by_quote (Some after) q e = empty_string bytes after p q e
read_string (suc n) bytes p e = by_quote (λ rest x. read_string n rest x) (after_quote bytes) refl e
  where
    by_rest : ((rest : List ℕ) (x : List ℕ × List ℕ) → units n rest ≡ found_units x → IsString rest x.0 x.1) → (b : ℕ) (after : List ℕ) →
        IsUnit bytes b after → (u : Units_read) → units n after ≡ u → with_unit b u ≡ found_units p → IsString bytes p.0 p.1
    by_rest others b after is None u e = absurd (no_units p e)
    by_rest others b after is (Some x) u e =
        let rest = others after x u in
        string_is bytes (b ∷ x.0, x.1) p e (record {
          small = (is.small, rest.small);
          shorter =
              omega (arith, is.shorter, rest.shorter, length-append (unit b) (flat_map unit x.0));
        })

    by_unit : ((rest : List ℕ) (x : List ℕ × List ℕ) → units n rest ≡ found_units x → IsString rest x.0 x.1) → after_quote bytes ≡ None →
        (u : Unit_read) → unit_at bytes ≡ u → unit_then u (units n) ≡ found_units p → IsString bytes p.0 p.1
    by_unit others q None u e = absurd (no_units p e)
    by_unit others q (Some x) u e = by_rest others x.0 x.1 (read_unit bytes x.0 x.1 q u) (units n x.1) refl e

    by_quote : ((rest : List ℕ) (x : List ℕ × List ℕ) → units n rest ≡ found_units x → IsString rest x.0 x.1) → (q : Option (List ℕ)) →
        after_quote bytes ≡ q → unless_ended q (unit_then (unit_at bytes) (units n)) ≡ found_units p → IsString bytes p.0 p.1
    by_quote others None q e = by_unit others q (unit_at bytes) refl e
    by_quote others (Some after) q e = empty_string bytes after p q e

-- ---- a number

mul_up : (a b c : ℕ) → a ≤ b → a * c ≤ b * c
mul_up a b c le = grind (arith, mul-le-mul_right)

-- the value of digits is below a bound that depends on their number
value_after-lt : (n : ℕ) (ds : List ℕ) → list_all is_digit ds ≡ true → value_after n ds < (n + 1) * 10 ^ length ds
unfolding value_after
value_after-lt n [] all = omega arith
value_after-lt n (d ∷ ds) all =
    let parts = and_parts (is_digit d) (list_all is_digit ds) all in
    let small : d ≤ 57 = leb-true d 57 (and_parts (leb 48 d) (leb d 57) parts.0).1 in
    let others = value_after-lt (10 * n + (d - 48)) ds parts.1 in
    let up = mul_up (10 * n + (d - 48) + 1) (10 * (n + 1)) (10 ^ length ds) (omega arith) in
    rw (pow-suc 10 (length ds)) (omega (arith, others, up))

digits_shorter : (ds : List ℕ) (n : ℕ) → 0 < length ds → list_all is_digit ds ≡ true → number_of ds ≡ Some n → (n ≤ MAX_NUMBER)
    × (length (decimal n) ≤ length ds)
digits_shorter ds n some all e = by_zero (chosen (has_leading_zero ds) None (value_within ds) (Some n) e)
  where
    none_some : (x : ℕ) → None ≡ Some x → ⊥
    none_some x e = cc

    bounded : value_after 0 ds ≤ MAX_NUMBER → value_after 0 ds ≡ n → (n ≤ MAX_NUMBER) × (length (decimal n) ≤ length ds)
    bounded le is = (
      omega (arith, is),
      length-decimal-le (length ds) n some (omega (arith, is, value_after-lt 0 ds all))
          (omega (arith, is)),
    )

    same_number : (a b : ℕ) → Some a ≡ Some b → a ≡ b
    same_number a b e = cc

    by_range : (leb (value_after 0 ds) MAX_NUMBER ≡ true) × (Some (value_after 0 ds) ≡ Some n)
        ⊎ (leb (value_after 0 ds) MAX_NUMBER ≡ false) × (None ≡ Some n) → (n ≤ MAX_NUMBER) × (length (decimal n) ≤ length ds)
    by_range (inl (t, e)) = bounded (leb-true (value_after 0 ds) MAX_NUMBER t) (same_number (value_after 0 ds) n e)
    by_range (inr (f, e)) = absurd (none_some n e)

    by_zero : (has_leading_zero ds ≡ true) × (None ≡ Some n) ⊎ (has_leading_zero ds ≡ false) × (value_within ds ≡ Some n) →
        (n ≤ MAX_NUMBER) × (length (decimal n) ≤ length ds)
    by_zero (inl (t, e)) = absurd (none_some n e)
    by_zero (inr (f, e)) = by_range (chosen (leb (value_after 0 ds) MAX_NUMBER) (Some (value_after 0 ds)) None (Some n) e)

-- ---- any token

-- what holds of a token that was read: a number without a value has no canonical text
abbrev pub IsSpelled : Shape → Type 0
IsSpelled (shape.Word word) = is_word word ≡ true
IsSpelled (shape.Number None) = Unit {0}
IsSpelled (shape.Number (Some n)) = n ≤ MAX_NUMBER
IsSpelled (shape.Text text) = (is_text text ≡ true) × AreBytes text
IsSpelled (shape.Mark mark) = Unit {0}

-- no byte of a word follows a word or a number, and a word or a number begins with a byte of a word
abbrev pub IsApart : Bool → List ℕ → List ℕ → Type 0
IsApart true bytes rest = (prefix_len is_word_byte rest ≡ 0) × (0 < prefix_len is_word_byte bytes)
IsApart false bytes rest = Unit {0}

-- what holds of a token that was read, and of the bytes after it
pub record IsToken (bytes : List ℕ) (s : Shape) (rest : List ℕ) : Type 0 where
  pub spelled : IsSpelled s
  pub shorter : length (token s) + length rest ≤ length bytes
  pub apart : IsApart (is_wordlike s) bytes rest

abbrev found_token : Shape × List ℕ → Read
found_token p = Some p

no_token : (p : Shape × List ℕ) → None ≡ found_token p → ⊥
no_token p e = cc

same_token : (p q : Shape × List ℕ) → found_token p ≡ found_token q → p ≡ q
same_token p q e = cc

token_is : (bytes : List ℕ) (p q : Shape × List ℕ) → found_token p ≡ found_token q → IsToken bytes p.0 p.1 → IsToken bytes q.0 q.1
token_is bytes p q e is = subst (λ (x : Shape × List ℕ). IsToken bytes x.0 x.1) (same_token p q e) is

begins_word_byte : (b : ℕ) (bytes : List ℕ) → is_word_byte b ≡ true → 0 < prefix_len is_word_byte (b ∷ bytes)
begins_word_byte b bytes is = rw is (omega arith)

read_word : (b : ℕ) (bytes : List ℕ) (p : Shape × List ℕ) → is_letter b ≡ true → word_at (b ∷ bytes) ≡ found_token p →
    IsToken (b ∷ bytes) p.0 p.1
read_word b bytes p letter e = by_word (chosen (is_word front) (found_token (shape.Word front, rest)) None (found_token p) e)
  where
    front : List ℕ
    front = take (prefix_len is_word_byte (b ∷ bytes)) (b ∷ bytes)

    rest : List ℕ
    rest = drop (prefix_len is_word_byte (b ∷ bytes)) (b ∷ bytes)

    by_word : (is_word front ≡ true) × (found_token (shape.Word front, rest) ≡ found_token p) ⊎ (is_word front ≡ false)
        × (None ≡ found_token p) → IsToken (b ∷ bytes) p.0 p.1
    by_word (inl (t, e)) = token_is (b ∷ bytes) (shape.Word front, rest) p e (record {
      spelled = t;
      shorter = omega (
        arith,
        length-take (prefix_len is_word_byte (b ∷ bytes)) (b ∷ bytes),
        length-drop (prefix_len is_word_byte (b ∷ bytes)) (b ∷ bytes),
      );
      apart = (left_stops is_word_byte (b ∷ bytes), begins_word_byte b bytes (letter_in_word b letter));
    })
    by_word (inr (f, e)) = absurd (no_token p e)

goes_on_stops : (rest : List ℕ) → goes_on rest ≡ false → prefix_len is_word_byte rest ≡ 0
goes_on_stops [] e = refl
goes_on_stops (b ∷ rest) e = rw e refl

number_shorter : (front rest bytes : List ℕ) (o : Option ℕ) → 0 < length front → list_all is_digit front ≡ true →
    length front + length rest ≤ length bytes → number_of front ≡ o → IsSpelled (shape.Number o)
    × (length (token (shape.Number o)) + length rest ≤ length bytes)
number_shorter front rest bytes None some all len e = (tt, omega (arith, len))
number_shorter front rest bytes (Some n) some all len e = let d = digits_shorter front n some all e in (d.0, omega (arith, len, d.1))

read_number : (b : ℕ) (bytes : List ℕ) (p : Shape × List ℕ) → is_digit b ≡ true → number_at (b ∷ bytes) ≡ found_token p →
    IsToken (b ∷ bytes) p.0 p.1
read_number b bytes p digit e = by_end (chosen (goes_on rest) None (found_token (shape.Number (number_of front), rest)) (found_token p) e)
  where
    n : ℕ
    n = prefix_len is_digit (b ∷ bytes)

    front : List ℕ
    front = take (prefix_len is_digit (b ∷ bytes)) (b ∷ bytes)

    rest : List ℕ
    rest = drop (prefix_len is_digit (b ∷ bytes)) (b ∷ bytes)

    some : 0 < length front
    some =
        let one : 0 < prefix_len is_digit (b ∷ bytes) = rw digit (omega arith) in
        omega (arith, one, length-take (prefix_len is_digit (b ∷ bytes)) (b ∷ bytes))

    len : length front + length rest ≤ length (b ∷ bytes)
    len = omega (
      arith,
      length-take (prefix_len is_digit (b ∷ bytes)) (b ∷ bytes),
      length-drop (prefix_len is_digit (b ∷ bytes)) (b ∷ bytes),
    )

    by_end : (goes_on rest ≡ true) × (None ≡ found_token p) ⊎ (goes_on rest ≡ false)
        × (found_token (shape.Number (number_of front), rest) ≡ found_token p) → IsToken (b ∷ bytes) p.0 p.1
    by_end (inl (t, e)) = absurd (no_token p e)
    by_end (inr (f, e)) =
        let d = number_shorter front rest (b ∷ bytes) (number_of front) some (taken_passes is_digit (b ∷ bytes)) len refl in
        token_is (b ∷ bytes) (shape.Number (number_of front), rest) p e (record {
          spelled = d.0;
          shorter = d.1;
          apart = (goes_on_stops rest f, begins_word_byte b bytes (digit_in_word b digit));
        })

read_text : (bytes : List ℕ) (p : Shape × List ℕ) → string_at bytes ≡ found_token p → IsToken (34 ∷ bytes) p.0 p.1
read_text bytes p e = by_units (units 64 bytes) refl e
  where
    by_units : (u : Units_read) → units 64 bytes ≡ u → string_of u ≡ found_token p → IsToken (34 ∷ bytes) p.0 p.1
    by_units None u e = absurd (no_token p e)
    by_units (Some x) u e = by_text (chosen (is_text x.0) (found_token (shape.Text x.0, x.1)) None (found_token p) e)
      where
        is : IsString bytes x.0 x.1
        is = read_string 64 bytes x u

        by_text : (is_text x.0 ≡ true) × (found_token (shape.Text x.0, x.1) ≡ found_token p) ⊎ (is_text x.0 ≡ false)
            × (None ≡ found_token p) → IsToken (34 ∷ bytes) p.0 p.1
        by_text (inl (t, e)) = token_is (34 ∷ bytes) (shape.Text x.0, x.1) p e (record {
          spelled = (t, is.small);
          shorter = omega (arith, is.shorter, length-append (flat_map unit x.0) (34 ∷ []));
          apart = tt;
        })
        by_text (inr (f, e)) = absurd (no_token p e)

read_mark : (b : ℕ) (bytes : List ℕ) (p : Shape × List ℕ) (s : Shape) → is_wordlike s ≡ false → IsSpelled s → length (token s) ≡ 1 →
    found_token (s, bytes) ≡ found_token p → IsToken (b ∷ bytes) p.0 p.1
read_mark b bytes p s plain spelled one e = token_is (b ∷ bytes) (s, bytes) p e (record {
  spelled = spelled;
  shorter = omega (arith, one);
  apart = subst (λ (x : Bool). IsApart x (b ∷ bytes) bytes) (sym plain) tt;
})

-- what was read
pub read_token : (bytes : List ℕ) (p : Shape × List ℕ) → token_at bytes ≡ Some p → IsToken bytes p.0 p.1
read_token [] p e = absurd (no_token p e)
read_token (b ∷ bytes) p e = by_letter (chosen (is_letter b) (word_at (b ∷ bytes)) (token_unless_word b bytes) (found_token p) e)
  where
    by_end : (eqb b 59 ≡ true) × (found_token (shape.Mark mark.Semicolon, bytes) ≡ found_token p) ⊎ (eqb b 59 ≡ false)
        × (None ≡ found_token p) → IsToken (b ∷ bytes) p.0 p.1
    by_end (inl (t, e)) = read_mark b bytes p (shape.Mark mark.Semicolon) refl tt refl e
    by_end (inr (f, e)) = absurd (no_token p e)

    by_close : (eqb b 125 ≡ true) × (found_token (shape.Mark mark.Close, bytes) ≡ found_token p) ⊎ (eqb b 125 ≡ false)
        × (cond (eqb b 59) (found_token (shape.Mark mark.Semicolon, bytes)) None ≡ found_token p) → IsToken (b ∷ bytes) p.0 p.1
    by_close (inl (t, e)) = read_mark b bytes p (shape.Mark mark.Close) refl tt refl e
    by_close (inr (f, e)) = by_end (chosen (eqb b 59) (found_token (shape.Mark mark.Semicolon, bytes)) None (found_token p) e)

    by_open : (eqb b 123 ≡ true) × (found_token (shape.Mark mark.Open, bytes) ≡ found_token p) ⊎ (eqb b 123 ≡ false)
        × (cond (eqb b 125) (found_token (shape.Mark mark.Close, bytes))
        (cond (eqb b 59) (found_token (shape.Mark mark.Semicolon, bytes)) None) ≡ found_token p) → IsToken (b ∷ bytes) p.0 p.1
    by_open (inl (t, e)) = read_mark b bytes p (shape.Mark mark.Open) refl tt refl e
    by_open (inr (f, e)) = by_close (chosen (eqb b 125) (found_token (shape.Mark mark.Close, bytes))
        (cond (eqb b 59) (found_token (shape.Mark mark.Semicolon, bytes)) None) (found_token p) e)

    by_quote : (eqb b 34 ≡ true) × (string_at bytes ≡ found_token p) ⊎ (eqb b 34 ≡ false)
        × (cond (eqb b 123) (found_token (shape.Mark mark.Open, bytes))
        (cond (eqb b 125) (found_token (shape.Mark mark.Close, bytes))
        (cond (eqb b 59) (found_token (shape.Mark mark.Semicolon, bytes)) None)) ≡ found_token p) → IsToken (b ∷ bytes) p.0 p.1
    by_quote (inl (t, e)) = subst (λ (x : ℕ). IsToken (x ∷ bytes) p.0 p.1) (sym (eqb-true b 34 t)) (read_text bytes p e)
    by_quote (inr (f, e)) = by_open (chosen (eqb b 123) (found_token (shape.Mark mark.Open, bytes))
        (cond (eqb b 125) (found_token (shape.Mark mark.Close, bytes))
        (cond (eqb b 59) (found_token (shape.Mark mark.Semicolon, bytes)) None)) (found_token p) e)

    by_digit : (is_digit b ≡ true) × (number_at (b ∷ bytes) ≡ found_token p) ⊎ (is_digit b ≡ false)
        × (token_unless_number b bytes ≡ found_token p) → IsToken (b ∷ bytes) p.0 p.1
    by_digit (inl (t, e)) = read_number b bytes p t e
    by_digit (inr (f, e)) = by_quote (chosen (eqb b 34) (string_at bytes)
        (cond (eqb b 123) (found_token (shape.Mark mark.Open, bytes))
        (cond (eqb b 125) (found_token (shape.Mark mark.Close, bytes))
        (cond (eqb b 59) (found_token (shape.Mark mark.Semicolon, bytes)) None))) (found_token p) e)

    by_letter : (is_letter b ≡ true) × (word_at (b ∷ bytes) ≡ found_token p) ⊎ (is_letter b ≡ false)
        × (token_unless_word b bytes ≡ found_token p) → IsToken (b ∷ bytes) p.0 p.1
    by_letter (inl (t, e)) = read_word b bytes p t e
    by_letter (inr (f, e)) = by_digit (chosen (is_digit b) (number_at (b ∷ bytes)) (token_unless_number b bytes) (found_token p) e)

-- ---- all tokens

-- no byte of a word follows a word or a number
abbrev pub IsFree : Bool → List ℕ → Type 0
IsFree true bytes = prefix_len is_word_byte bytes ≡ 0
IsFree false bytes = Unit {0}

past_within : (o : Option Bool) (b : ℕ) (bs : List ℕ) (further : Bool → List ℕ) → ((inside : Bool) → length (further inside) ≤ length bs) →
    length (past o (b ∷ bs) further) ≤ length (b ∷ bs)
past_within None b bs further within = omega arith
past_within (Some inside) b bs further within = omega (arith, within inside)

skipped_within : (comments inside : Bool) (bytes : List ℕ) → length (skipped comments inside bytes) ≤ length bytes
skipped_within comments inside [] = omega arith
skipped_within comments inside (b ∷ bs) = past_within (separates comments inside b) b bs (λ (further : Bool). skipped comments further bs)
    (λ (further : Bool). skipped_within comments further bs)

-- after the blanks there are all bytes, or fewer
same_or_shorter : (comments : Bool) (bytes : List ℕ) →
    (after_blanks comments bytes ≡ bytes) ⊎ (1 + length (after_blanks comments bytes) ≤ length bytes)
same_or_shorter comments [] = inl refl
same_or_shorter comments (b ∷ bs) = by_byte (separates comments false b)
  where
    by_byte : (o : Option Bool) → (past o (b ∷ bs) (λ (further : Bool). skipped comments further bs) ≡ b ∷ bs)
        ⊎ (1 + length (past o (b ∷ bs) (λ (further : Bool). skipped comments further bs)) ≤ length (b ∷ bs))
    by_byte None = inl refl
    by_byte (Some inside) = inr (omega (arith, skipped_within comments inside bs))

-- there is a blank or a comment between two words or numbers
blank_between : (comments before : Bool) (s : Shape) (bytes rest : List ℕ) → IsFree before bytes →
    IsApart (is_wordlike s) (after_blanks comments bytes) rest →
    length (gap before (is_wordlike s)) + length (after_blanks comments bytes) ≤ length bytes
blank_between comments before s bytes rest free apart = by_gap before (is_wordlike s) free apart
  where
    within : length (after_blanks comments bytes) ≤ length bytes
    within = skipped_within comments false bytes

    some : prefix_len is_word_byte bytes ≡ 0 → 0 < prefix_len is_word_byte (after_blanks comments bytes) →
        (after_blanks comments bytes ≡ bytes) ⊎ (1 + length (after_blanks comments bytes) ≤ length bytes) →
        1 + length (after_blanks comments bytes) ≤ length bytes
    some free begins (inl same) = absurd (omega (arith, free, begins, ap (prefix_len is_word_byte) same))
    some free begins (inr shorter) = shorter

    by_gap : (x y : Bool) → IsFree x bytes → IsApart y (after_blanks comments bytes) rest →
        length (gap x y) + length (after_blanks comments bytes) ≤ length bytes
    by_gap true true free apart = some free apart.1 (same_or_shorter comments bytes)
    by_gap true false free apart = omega (arith, within)
    by_gap false true free apart = omega (arith, within)
    by_gap false false free apart = omega (arith, within)

free_after : (y : Bool) (bytes rest : List ℕ) → IsApart y bytes rest → IsFree y rest
free_after true bytes rest apart = apart.0
free_after false bytes rest apart = tt

-- no text of the same tokens is shorter than the canonical one
pub canon_shortest : (comments : Bool) (end : ℕ) (before : Bool) (bytes : List ℕ) (ts : List Token) → IsFree before bytes → Lexes comments end bytes ts None →
    length (canon_after before (shapes_of ts)) ≤ length bytes
canon_shortest comments end before bytes [] free lexed = omega arith
canon_shortest comments end before bytes (t ∷ ts) free (rest, found, place, others) =
    let is = read_token (after_blanks comments bytes) (t.shape, rest) found in
    let following = canon_after (is_wordlike t.shape) (shapes_of ts) in
    omega (
      arith,
      blank_between comments before t.shape bytes rest free is.apart,
      is.shorter,
      canon_shortest comments end (is_wordlike t.shape) rest ts (free_after (is_wordlike t.shape) (after_blanks comments bytes) rest is.apart) others,
      length-append (gap before (is_wordlike t.shape) ++ token t.shape) following,
      length-append (gap before (is_wordlike t.shape)) (token t.shape),
    )

abbrev pub AreSpelled : List Token → Type 0
AreSpelled [] = Unit {0}
AreSpelled (t ∷ ts) = IsSpelled t.shape × AreSpelled ts

-- tokens that were read are words, strings of bytes, marks, and numbers that have no value or are at most the
-- maximum
pub tokens_spelled : (comments : Bool) (end : ℕ) (bytes : List ℕ) (ts : List Token) (fault : Option ℕ) → Lexes comments end bytes ts fault → AreSpelled ts
tokens_spelled comments end bytes [] fault lexed = tt
tokens_spelled comments end bytes (t ∷ ts) fault (rest, found, place, others) =
    ((read_token (after_blanks comments bytes) (t.shape, rest) found).spelled, tokens_spelled comments end rest ts fault others)
