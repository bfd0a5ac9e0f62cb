-- A number is read back from its digits.
use Rattle.std.proofs.Common.{◌≡◌, ℕ, zero, suc, ◌+◌, ◌-◌, ◌*◌, ◌/◌, ◌%◌, ◌^◌, ◌<◌, ◌≤◌, Bool, true, false, cond, eqb, ◌&&◌, ◌||◌, leb, ltb, List, [], ◌∷◌, ◌++◌, length, get_or, Some, ◌⊎◌, inl, inr, refl, sym, ap, ◌∙◌, arith}
use Rattle.std.specs.List.{prefix_len, list_all}
use Rattle.std.specs.Fmt.{decimal}
use Rattle.std.proofs.lemmas.Fmt.{decimal_by_steps, decimal_digit, first_decimal}
use Rattle.std.proofs.lemmas.Bool.{le-leb, le-ltb}
use Rattle.std.proofs.lemmas.List.{take_at, drop_at}
use Rattle.std.proofs.lemmas.List.Folds.{list_all-append}
use Rattle.job_tree.specs.Words.{is_letter, is_digit, is_word_byte}
use Rattle.job_tokens.specs.declared.token.Shape.TheVariants as shape
use Rattle.job_tree.specs.declared.limits.TheConstants.{MAX_NUMBER}
use Rattle.job_tokens.specs.Lexing.{number_at, number_of, value_after, has_leading_zero, goes_on}
use Rattle.job_tokens.proofs.Round_bytes.{and_whole, prefix_len-run, stops_sooner, either_way}

-- ---- digits

is_digit-byte : (d : ℕ) → d < 10 → is_digit (48 + d) ≡ true
is_digit-byte d lt = and_whole (leb 48 (48 + d)) (leb (48 + d) 57) (le-leb _ _ (omega arith)) (le-leb _ _ (omega arith))

value_after-append : (n : ℕ) (xs ys : List ℕ) → value_after n (xs ++ ys) ≡ value_after (value_after n xs) ys
unfolding value_after
value_after-append n [] ys = refl
value_after-append n (x ∷ xs) ys = value_after-append (10 * n + (x - 48)) xs ys

-- digits with the value of a number
pub record AreDigitsOf (n : ℕ) (ds : List ℕ) : Type 0 where
  pub all : list_all is_digit ds ≡ true
  pub value : value_after 0 ds ≡ n

one_digit : (n : ℕ) → n < 10 → AreDigitsOf n ((48 + n) ∷ [])
unfolding value_after
one_digit n lt = record { all = and_whole (is_digit (48 + n)) true (is_digit-byte n lt) refl; value = omega arith }

one_more_digit : (n : ℕ) (ds : List ℕ) → 10 ≤ n → AreDigitsOf (n / 10) ds → AreDigitsOf n (ds ++ (48 + n % 10) ∷ [])
unfolding value_after
one_more_digit n ds ge are = record {
  all = list_all-append is_digit ds ((48 + n % 10) ∷ []) ∙ and_whole (list_all is_digit ds) (is_digit (48 + n % 10) && true) are.all
      (and_whole (is_digit (48 + n % 10)) true (is_digit-byte (n % 10) (omega arith)) refl);
  value = value_after-append 0 ds ((48 + n % 10) ∷ []) ∙ omega (arith, are.value);
}

-- the decimal digits of a number have its value
pub digits_of_number : (n : ℕ) → n < 2 ^ 64 → AreDigitsOf n (decimal n)
digits_of_number n lt = decimal_by_steps AreDigitsOf one_digit one_more_digit n lt

no_leading_zero : (ds : List ℕ) → (length ds ≡ 1) ⊎ (48 < get_or ds 0 0) → has_leading_zero ds ≡ false
no_leading_zero [] h = refl
no_leading_zero (d ∷ ds) (inl one) = by_test (either_way (eqb d 48))
  where
    few : ltb 0 (length ds) ≡ false
    few = le-ltb 0 (length ds) (omega arith)

    by_test : (eqb d 48 ≡ true) ⊎ (eqb d 48 ≡ false) → (eqb d 48 && ltb 0 (length ds)) ≡ false
    by_test (inl is) = rw (is, few) refl
    by_test (inr is) = rw is refl
no_leading_zero (d ∷ ds) (inr above) = let is : eqb d 48 ≡ false = grind arith in rw is refl

canonical_digits : (n : ℕ) → n < 2 ^ 64 → has_leading_zero (decimal n) ≡ false
canonical_digits zero lt = no_leading_zero (decimal 0) (inl (ap length (decimal_digit 0 (omega arith))))
canonical_digits (suc n) lt = no_leading_zero (decimal (suc n)) (inr (first_decimal (suc n) (omega arith) lt))

number_of-decimal : (n : ℕ) → n ≤ MAX_NUMBER → number_of (decimal n) ≡ Some n
number_of-decimal n le =
    let lt : n < 2 ^ 64 = omega arith in
    let are = digits_of_number n lt in
    let within : leb n MAX_NUMBER ≡ true = le-leb n MAX_NUMBER le in
    rw (canonical_digits n lt, are.value, within) refl

-- ---- a number token

stops_goes_on : (rest : List ℕ) → prefix_len is_word_byte rest ≡ 0 → goes_on rest ≡ false
stops_goes_on [] stops = refl
stops_goes_on (b ∷ rest) stops = by_test (is_word_byte b) refl
  where
    by_test : (t : Bool) → is_word_byte b ≡ t → is_word_byte b ≡ false
    by_test true is = let e : cond true (1 + prefix_len is_word_byte rest) 0 ≡ 0 =
        sym (ap (λ (x : Bool). cond x (1 + prefix_len is_word_byte rest) 0) is) ∙ stops in absurd (omega (arith, e))
    by_test false is = is

or_first : (a b c : Bool) → b ≡ true → ((a || b) || c) ≡ true
or_first true b c is = refl
or_first false true c is = refl
or_first false false c is = absurd cc

-- a digit is a byte of a word
pub digit_in_word : (b : ℕ) → is_digit b ≡ true → is_word_byte b ≡ true
digit_in_word b is = or_first (is_letter b) (is_digit b) (eqb b 95) is

-- the digits of a number, followed by no byte of a word, are read as that number
pub number_at-again : (n : ℕ) (rest : List ℕ) → n ≤ MAX_NUMBER → prefix_len is_word_byte rest ≡ 0 →
    number_at (decimal n ++ rest) ≡ Some (shape.Number (Some n), rest)
number_at-again n rest le stops =
    let are = digits_of_number n (omega arith) in
    let len : prefix_len is_digit (decimal n ++ rest) ≡ length (decimal n) =
    prefix_len-run is_digit (decimal n) rest are.all (stops_sooner is_word_byte is_digit rest digit_in_word stops) in
    rw (
      len,
      take_at (decimal n) rest (length (decimal n)) refl,
      drop_at (decimal n) rest (length (decimal n)) refl,
      stops_goes_on rest stops,
      number_of-decimal n le,
    ) refl
