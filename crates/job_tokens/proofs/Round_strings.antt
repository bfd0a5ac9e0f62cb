-- A string is read back from its canonical bytes.
use Rattle.std.proofs.Common.{◌≡◌, ℕ, zero, suc, ◌+◌, ◌-◌, ◌*◌, ◌/◌, ◌%◌, ◌<◌, ◌≤◌, Bool, true, false, eqb, ◌&&◌, ◌||◌, leb, ltb, List, [], ◌∷◌, ◌++◌, length, Some, None, ◌⊎◌, inl, inr, refl, ap, ◌∙◌, append_assoc, arith}
use Rattle.std.specs.List.{flat_map, AllByRecursion}
use Rattle.std.proofs.lemmas.Bool.{le-leb, le-ltb, cases_lt}
use Rattle.job_tree.specs.Words.{is_digit, is_text}
use Rattle.job_tokens.specs.declared.token.Shape.TheVariants as shape
use Rattle.job_tokens.specs.Lexing.{hex_value, unit_at, is_plain, after_quote, units, string_of, string_at, token_at}
use Rattle.basics.specs.Hex.{hex_digit}
use Rattle.job_tokens.specs.Canon.{unit}
use Rattle.job_tokens.proofs.Round_bytes.{and_whole, or_none, either_way}

lt-ltb : (a b : ℕ) → a < b → ltb a b ≡ true
lt-ltb a b lt = grind arith

hex_value-digit : (d : ℕ) → d < 16 → hex_value (hex_digit d) ≡ Some d
hex_value-digit d small = elim (cases_lt d 10) [ inl lt ↦ low lt | inr ge ↦ high ge ]
  where
    low : d < 10 → hex_value (hex_digit d) ≡ Some d
    low lt =
        let is : ltb d 10 ≡ true = lt-ltb d 10 lt in
        let digit : is_digit (d + 48) ≡ true =
        and_whole (leb 48 (d + 48)) (leb (d + 48) 57) (le-leb _ _ (omega arith)) (le-leb _ _ (omega arith)) in
        let value : d + 48 - 48 ≡ d = omega arith in
        rw (is, digit, value) refl

    high : 10 ≤ d → hex_value (hex_digit d) ≡ Some d
    high ge =
        let is : ltb d 10 ≡ false = le-ltb d 10 ge in
        let none : leb (d + 87) 57 ≡ false = grind arith in
        let digit : is_digit (d + 87) ≡ false = ap (λ (x : Bool). leb 48 (d + 87) && x) none ∙ and_false (leb 48 (d + 87)) in
        let letter : (leb 97 (d + 87) && leb (d + 87) 102) ≡ true =
        and_whole (leb 97 (d + 87)) (leb (d + 87) 102) (le-leb _ _ (omega arith)) (le-leb _ _ (omega arith)) in
        let value : d + 87 - 87 ≡ d = omega arith in
        rw (is, digit, letter, value) refl
      where
        and_false : (b : Bool) → (b && false) ≡ false
        and_false true = refl
        and_false false = refl

-- one unit and the bytes after it
record ReadsAgain (b : ℕ) (rest : List ℕ) : Type 0 where
  unquoted : after_quote (unit b ++ rest) ≡ None
  again : unit_at (unit b ++ rest) ≡ Some (b, rest)

unit_again : (b : ℕ) (rest : List ℕ) → b < 256 → ReadsAgain b rest
unit_again b rest small = by_escape (either_way (eqb b 34 || eqb b 92))
  where
    hex : (eqb b 34 || eqb b 92) ≡ false → is_plain b ≡ false → ReadsAgain b rest
    hex escaped plain =
        let spelled : unit b ≡ 92 ∷ 120 ∷ hex_digit (b / 16) ∷ hex_digit (b % 16) ∷ [] = rw (escaped, plain) refl in
        let value : 16 * (b / 16) + b % 16 ≡ b = omega arith in
        record {
          unquoted = ap (λ (x : List ℕ). after_quote (x ++ rest)) spelled;
          again = ap (λ (x : List ℕ). unit_at (x ++ rest)) spelled ∙ rw (
            hex_value-digit (b / 16) (omega arith),
            hex_value-digit (b % 16) (omega arith),
            value,
          ) refl;
        }

    plainly : (eqb b 34 || eqb b 92) ≡ false → is_plain b ≡ true → ReadsAgain b rest
    plainly escaped plain =
        let spelled : unit b ≡ b ∷ [] = rw (escaped, plain) refl in
        let parts = or_none (eqb b 34) (eqb b 92) escaped in
        record {
          unquoted = ap (λ (x : List ℕ). after_quote (x ++ rest)) spelled ∙ rw parts.0 refl;
          again = ap (λ (x : List ℕ). unit_at (x ++ rest)) spelled ∙ rw (parts.1, plain) refl;
        }

    by_plain : (eqb b 34 || eqb b 92) ≡ false → (is_plain b ≡ true) ⊎ (is_plain b ≡ false) → ReadsAgain b rest
    by_plain escaped (inl plain) = plainly escaped plain
    by_plain escaped (inr plain) = hex escaped plain

    by_escape : ((eqb b 34 || eqb b 92) ≡ true) ⊎ ((eqb b 34 || eqb b 92) ≡ false) → ReadsAgain b rest
    by_escape (inl escaped) =
        let spelled : unit b ≡ 92 ∷ b ∷ [] = rw escaped refl in
        record {
          unquoted = ap (λ (x : List ℕ). after_quote (x ++ rest)) spelled;
          again = ap (λ (x : List ℕ). unit_at (x ++ rest)) spelled ∙ rw escaped refl;
        }
    by_escape (inr escaped) = by_plain escaped (either_way (is_plain b))

-- bytes that a string can have
abbrev pub AreBytes : List ℕ → Type 0
AreBytes bytes = AllByRecursion (λ b. b < 256) bytes

units_step : (n b : ℕ) (text rest more : List ℕ) → ReadsAgain b more → units n more ≡ Some (text, rest) →
    units (suc n) (unit b ++ more) ≡ Some (b ∷ text, rest)
unfolding units
units_step n b text rest more reads others = rw (reads.unquoted, reads.again, others) refl

units_again : (n : ℕ) (text rest : List ℕ) → length text ≤ n → AreBytes text → units n (flat_map unit text ++ 34 ∷ rest) ≡ Some (text, rest)
unfolding units
units_again zero [] rest le bytes = refl
units_again (suc n) [] rest le bytes = refl
units_again zero (b ∷ text) rest le bytes = absurd (omega arith)
units_again (suc n) (b ∷ text) rest le bytes =
    let more = flat_map unit text ++ 34 ∷ rest in
    ap (units (suc n)) (append_assoc (unit b) (flat_map unit text) (34 ∷ rest))
    ∙ units_step n b text rest more (unit_again b more bytes.0) (units_again n text rest (omega arith) bytes.1)

-- the canonical bytes of a string are read as that string, whatever follows them
pub string_again : (text rest : List ℕ) → is_text text ≡ true → length text ≤ 64 → AreBytes text →
    token_at ((34 ∷ (flat_map unit text ++ 34 ∷ [])) ++ rest) ≡ Some (shape.Text text, rest)
string_again text rest is le bytes =
    let grouped : (flat_map unit text ++ 34 ∷ []) ++ rest ≡ flat_map unit text ++ 34 ∷ rest =
    append_assoc (flat_map unit text) (34 ∷ []) rest in
    let found = units_again 64 text rest le bytes in
    ap string_at grouped ∙ ap string_of found ∙ (rw is refl)
