-- What stands between the tokens of a text: blanks and comments.
use Rattle.std.proofs.Common.{◌≡◌, ℕ, zero, suc, ◌-◌, Bool, true, false, cond, eqb, not, ◌||◌, List, [], ◌∷◌, ◌++◌, length, take, drop, Option, Some, None, ◌⊎◌, inl, inr, refl, sym, ap, subst, ◌∙◌, arith}
use Rattle.std.specs.List.{prefix_len, list_all}
use Rattle.std.proofs.Math.Seq.{take-append_seam}
use Rattle.std.proofs.lemmas.Bool.{eqb-true}
use Rattle.std.proofs.lemmas.List.{length-append}
use Rattle.job_tree.specs.Words.{is_letter, is_digit, is_word_byte, is_word, is_text}
use Rattle.job_tokens.specs.declared.token.Mark.TheVariants as mark
use Rattle.job_tokens.specs.declared.token.Shape.TheVariants as shape
use Rattle.job_tokens.specs.Lexing.{Read, Unit_read, Units_read, ends_line, is_plain, separates, past, skipped, after_blanks, word_at, number_at, number_of, goes_on, hex_value, byte_of, hex_at, escape_at, unit_at, after_quote, with_unit, unit_then, unless_ended, units, string_of, string_at, token_at}
use Rattle.job_tokens.specs.Comments.{Comment, line_at, after_line, comments_in, separator, rest_of, after_token, comments_along}
use Rattle.job_tokens.proofs.Round_bytes.{and_parts, and_whole, either_way}
use Rattle.job_tokens.proofs.Round_words.{token_unless_word, token_unless_number}

-- what comes before the first token is the separator
pub separator_is : (gap bytes : List ℕ) → after_blanks true (gap ++ bytes) ≡ bytes → separator (gap ++ bytes) ≡ gap
separator_is gap bytes e =
    let n : length (gap ++ bytes) - length (after_blanks true (gap ++ bytes)) ≡ length gap =
    omega (arith, length-append gap bytes, ap (length {A = ℕ}) e) in
    ap (λ (k : ℕ). take k (gap ++ bytes)) n ∙ take-append_seam gap bytes

-- ---- lines

line_and_rest : (bytes : List ℕ) → line_at bytes ++ after_line bytes ≡ bytes
line_and_rest [] = refl
line_and_rest (b ∷ bs) = by_byte (ends_line b) (line_and_rest bs)
  where
    by_byte : (ends : Bool) → line_at bs ++ after_line bs ≡ bs → cond ends [] (b ∷ line_at bs) ++ cond ends (b ∷ bs) (after_line bs) ≡ b ∷ bs
    by_byte true e = refl
    by_byte false e = ap (λ (xs : List ℕ). b ∷ xs) e

-- the bytes before what follows the first line are that line
pub line_before : (bytes : List ℕ) → take (length bytes - length (after_line bytes)) bytes ≡ line_at bytes
line_before bytes =
    let whole = line_and_rest bytes in
    let n : length bytes - length (after_line bytes) ≡ length (line_at bytes) =
    omega (arith, length-append (line_at bytes) (after_line bytes), ap (length {A = ℕ}) whole) in
    ap (λ (k : ℕ). take k bytes) n ∙ ap (take (length (line_at bytes))) (sym whole) ∙ take-append_seam (line_at bytes) (after_line bytes)

-- ---- comments

-- the bytes of a comment: `#`, and bytes that end no line
abbrev pub IsComment : List ℕ → Type 0
IsComment text = (line : List ℕ) × (text ≡ 35 ∷ line) × (list_all (λ b. not (ends_line b)) (35 ∷ line) ≡ true)

-- comments of which each has a line of its own, but for the first, unless nothing stands before it
abbrev pub AreComments : Bool → List Comment → Type 0
AreComments alone [] = Unit {0}
AreComments alone (c ∷ cs) = (alone ≡ true → c.alone ≡ true) × IsComment c.text × AreComments true cs

line_within : (bytes : List ℕ) → list_all (λ b. not (ends_line b)) (line_at bytes) ≡ true
line_within [] = refl
line_within (b ∷ bs) = by_byte (ends_line b) refl (line_within bs)
  where
    by_byte : (ends : Bool) → ends_line b ≡ ends → list_all (λ x. not (ends_line x)) (line_at bs) ≡ true →
        list_all (λ x. not (ends_line x)) (cond ends [] (b ∷ line_at bs)) ≡ true
    by_byte true e within = refl
    by_byte false e within = rw e within

-- a comment from its `#` on
comment_line : (bs : List ℕ) → IsComment (line_at (35 ∷ bs))
comment_line bs = (line_at bs, refl, line_within bs)

-- comments that each have a line of their own may also come after a token
also_after : (alone : Bool) (cs : List Comment) → AreComments true cs → AreComments alone cs
also_after alone [] are = tt
also_after alone (c ∷ cs) are = (λ e. are.0 refl, are.1, are.2)

by_sign : (alone : Bool) (b : ℕ) (bs : List ℕ) (more others : List Comment) → (eqb b 35 ≡ true) ⊎ (eqb b 35 ≡ false) → AreComments true more →
    AreComments alone others →
    AreComments alone (cond (eqb b 35) (record { alone = alone; text = line_at (b ∷ bs) } ∷ more) others)
by_sign alone b bs more others (inl t) are are_others = rw t (
  λ e. e,
  subst (λ (x : ℕ). IsComment (line_at (x ∷ bs))) (sym (eqb-true b 35 t)) (comment_line bs),
  are,
)
by_sign alone b bs more others (inr f) are are_others = rw f are_others

either_alone : (alone ends : Bool) (cs : List Comment) → AreComments (alone || ends) cs → AreComments alone cs
either_alone true ends cs are = are
either_alone false true cs are = also_after false cs are
either_alone false false cs are = are

-- what is read as comments are comments
pub comments_are_in : (alone inside : Bool) (bytes : List ℕ) → AreComments alone (comments_in alone inside bytes)
comments_are_in alone inside [] = tt
comments_are_in alone true (b ∷ bs) =
    also_after alone (comments_in true (not (ends_line b)) bs) (comments_are_in true (not (ends_line b)) bs)
comments_are_in alone false (b ∷ bs) =
    by_sign alone b bs (comments_in true true bs) (comments_in (alone || ends_line b) false bs) (either_way (eqb b 35))
    (comments_are_in true true bs)
    (either_alone alone (ends_line b) (comments_in (alone || ends_line b) false bs) (comments_are_in (alone || ends_line b) false bs))

pub comments_are : (alone : Bool) (bytes : List ℕ) → AreComments alone (comments_in alone false bytes)
comments_are alone bytes = comments_are_in alone false bytes

-- the comments before several tokens
abbrev pub AreAlong : Bool → List (List Comment) → Type 0
AreAlong alone [] = Unit {0}
AreAlong alone (cs ∷ css) = AreComments alone cs × AreAlong false css

pub along_are : (alone : Bool) (n : ℕ) (bytes : List ℕ) → AreAlong alone (comments_along alone n bytes)
along_are alone zero bytes = (comments_are alone (separator bytes), tt)
along_are alone (suc n) bytes = (comments_are alone (separator bytes), along_are false n (after_token bytes))

-- inside a comment, its line is left out
pub inside_is : (alone : Bool) (bytes : List ℕ) → comments_in alone true bytes ≡ comments_in true false (after_line bytes)
inside_is alone [] = refl
inside_is alone (b ∷ bs) = by_byte (ends_line b) refl (inside_is true bs)
  where
    not_both : {x : Bool} → x ≡ true → x ≡ false → ⊥
    not_both p q = cc

    no_sign : ends_line b ≡ true → (eqb b 35 ≡ true) ⊎ (eqb b 35 ≡ false) → eqb b 35 ≡ false
    no_sign t (inl e) = absurd (not_both t (subst (λ (x : ℕ). ends_line x ≡ false) (sym (eqb-true b 35 e)) refl))
    no_sign t (inr e) = e

    by_byte : (ends : Bool) → ends_line b ≡ ends → comments_in true true bs ≡ comments_in true false (after_line bs) →
        comments_in true (not ends) bs ≡ comments_in true false (cond ends (b ∷ bs) (after_line bs))
    by_byte true e others = rw (no_sign e (either_way (eqb b 35))) refl
    by_byte false e others = others

-- ---- the bytes of comments

-- each byte of each comment
abbrev pub AreOf : (ℕ → Bool) → List Comment → Type 0
AreOf p [] = Unit {0}
AreOf p (c ∷ cs) = (list_all p c.text ≡ true) × AreOf p cs

line_of : (p : ℕ → Bool) (bytes : List ℕ) → list_all p bytes ≡ true → list_all p (line_at bytes) ≡ true
line_of p [] all = refl
line_of p (b ∷ bs) all =
    let parts = and_parts (p b) (list_all p bs) all in by_byte (ends_line b) (and_whole (p b) (list_all p (line_at bs)) parts.0 (line_of p bs parts.1))
  where
    by_byte : (ends : Bool) → list_all p (b ∷ line_at bs) ≡ true → list_all p (cond ends [] (b ∷ line_at bs)) ≡ true
    by_byte true e = refl
    by_byte false e = e

comments_of_bytes : (p : ℕ → Bool) (alone inside : Bool) (bytes : List ℕ) → list_all p bytes ≡ true → AreOf p (comments_in alone inside bytes)
comments_of_bytes p alone inside [] all = tt
comments_of_bytes p alone true (b ∷ bs) all =
    comments_of_bytes p true (not (ends_line b)) bs (and_parts (p b) (list_all p bs) all).1
comments_of_bytes p alone false (b ∷ bs) all =
    let others = (and_parts (p b) (list_all p bs) all).1 in
    by_byte (eqb b 35) (line_of p (b ∷ bs) all, comments_of_bytes p true true bs others)
    (comments_of_bytes p (alone || ends_line b) false bs others)
  where
    by_byte : (sign : Bool) → AreOf p (record { alone = alone; text = line_at (b ∷ bs) } ∷ comments_in true true bs) →
        AreOf p (comments_in (alone || ends_line b) false bs) →
        AreOf p (cond sign (record { alone = alone; text = line_at (b ∷ bs) } ∷ comments_in true true bs)
        (comments_in (alone || ends_line b) false bs))
    by_byte true is are = is
    by_byte false is are = are

-- ---- the bytes after a token

dropped : (p : ℕ → Bool) (n : ℕ) (bytes : List ℕ) → list_all p bytes ≡ true → list_all p (drop n bytes) ≡ true
dropped p zero bytes all = all
dropped p (suc n) [] all = refl
dropped p (suc n) (b ∷ bs) all = dropped p n bs (and_parts (p b) (list_all p bs) all).1

-- the bytes after what was read
abbrev AreAfter : (ℕ → Bool) → Read → Type 0
AreAfter p None = Unit {0}
AreAfter p (Some read) = list_all p read.1 ≡ true

abbrev AreAfterUnit : (ℕ → Bool) → Unit_read → Type 0
AreAfterUnit p None = Unit {0}
AreAfterUnit p (Some read) = list_all p read.1 ≡ true

abbrev AreAfterUnits : (ℕ → Bool) → Units_read → Type 0
AreAfterUnits p None = Unit {0}
AreAfterUnits p (Some read) = list_all p read.1 ≡ true

chosen_after : (p : ℕ → Bool) (test : Bool) (one other : Read) → AreAfter p one → AreAfter p other → AreAfter p (cond test one other)
chosen_after p true one other is is_other = is
chosen_after p false one other is is_other = is_other

chosen_unit : (p : ℕ → Bool) (test : Bool) (one other : Unit_read) → AreAfterUnit p one → AreAfterUnit p other →
    AreAfterUnit p (cond test one other)
chosen_unit p true one other is is_other = is
chosen_unit p false one other is is_other = is_other

byte_after : (p : ℕ → Bool) (high low : Option ℕ) (bytes : List ℕ) → list_all p bytes ≡ true → AreAfterUnit p (byte_of high low bytes)
byte_after p (Some high) (Some low) bytes all = all
byte_after p (Some high) None bytes all = tt
byte_after p None low bytes all = tt

hex_after : (p : ℕ → Bool) (bytes : List ℕ) → list_all p bytes ≡ true → AreAfterUnit p (hex_at bytes)
hex_after p [] all = tt
hex_after p (h ∷ []) all = tt
hex_after p (h ∷ l ∷ bs) all = byte_after p (hex_value h) (hex_value l) bs (dropped p 2 (h ∷ l ∷ bs) all)

escape_after : (p : ℕ → Bool) (bytes : List ℕ) → list_all p bytes ≡ true → AreAfterUnit p (escape_at bytes)
escape_after p [] all = tt
escape_after p (b ∷ bs) all =
    let others = dropped p 1 (b ∷ bs) all in
    chosen_unit p (eqb b 34 || eqb b 92) (Some (b, bs)) (cond (eqb b 120) (hex_at bs) None) others
    (chosen_unit p (eqb b 120) (hex_at bs) None (hex_after p bs others) tt)

unit_after : (p : ℕ → Bool) (bytes : List ℕ) → list_all p bytes ≡ true → AreAfterUnit p (unit_at bytes)
unit_after p [] all = tt
unit_after p (b ∷ bs) all =
    let others = dropped p 1 (b ∷ bs) all in
    chosen_unit p (eqb b 92) (escape_at bs) (cond (is_plain b) (Some (b, bs)) None) (escape_after p bs others)
    (chosen_unit p (is_plain b) (Some (b, bs)) None others tt)

with_unit_after : (p : ℕ → Bool) (b : ℕ) (read : Units_read) → AreAfterUnits p read → AreAfterUnits p (with_unit b read)
with_unit_after p b None is = tt
with_unit_after p b (Some read) is = is

then_after : (p : ℕ → Bool) (unit : Unit_read) (others : List ℕ → Units_read) → AreAfterUnit p unit →
    ((bytes : List ℕ) → list_all p bytes ≡ true → AreAfterUnits p (others bytes)) → AreAfterUnits p (unit_then unit others)
then_after p None others is all = tt
then_after p (Some read) others is all = with_unit_after p read.0 (others read.1) (all read.1 is)

ended_after : (p : ℕ → Bool) (bytes : List ℕ) (read : Units_read) → list_all p bytes ≡ true → AreAfterUnits p read →
    AreAfterUnits p (unless_ended (after_quote bytes) read)
ended_after p [] read all is = is
ended_after p (b ∷ bs) read all is = by_byte (eqb b 34) (dropped p 1 (b ∷ bs) all)
  where
    by_byte : (quote : Bool) → list_all p bs ≡ true → AreAfterUnits p (unless_ended (cond quote (Some bs) None) read)
    by_byte true others = others
    by_byte false others = is

units_after : (p : ℕ → Bool) (n : ℕ) (bytes : List ℕ) → list_all p bytes ≡ true → AreAfterUnits p (units n bytes)
unfolding units
units_after p zero bytes all = ended_after p bytes None all tt
units_after p (suc n) bytes all =
    ended_after p bytes (unit_then (unit_at bytes) (units n)) all
    (then_after p (unit_at bytes) (units n) (unit_after p bytes all) (λ rest is. units_after p n rest is))

string_after : (p : ℕ → Bool) (read : Units_read) → AreAfterUnits p read → AreAfter p (string_of read)
string_after p None is = tt
string_after p (Some read) is = chosen_after p (is_text read.0) (Some (shape.Text read.0, read.1)) None is tt

token_after : (p : ℕ → Bool) (bytes : List ℕ) → list_all p bytes ≡ true → AreAfter p (token_at bytes)
token_after p [] all = tt
token_after p (b ∷ bs) all =
    let others = dropped p 1 (b ∷ bs) all in
    chosen_after p (is_letter b) (word_at (b ∷ bs)) (token_unless_word b bs)
    (chosen_after p (is_word (take (prefix_len is_word_byte (b ∷ bs)) (b ∷ bs)))
    (Some (shape.Word (take (prefix_len is_word_byte (b ∷ bs)) (b ∷ bs)), drop (prefix_len is_word_byte (b ∷ bs)) (b ∷ bs))) None
    (dropped p (prefix_len is_word_byte (b ∷ bs)) (b ∷ bs) all) tt)
    (chosen_after p (is_digit b) (number_at (b ∷ bs)) (token_unless_number b bs)
    (chosen_after p (goes_on (drop (prefix_len is_digit (b ∷ bs)) (b ∷ bs))) None
    (Some (shape.Number (number_of (take (prefix_len is_digit (b ∷ bs)) (b ∷ bs))), drop (prefix_len is_digit (b ∷ bs)) (b ∷ bs))) tt
    (dropped p (prefix_len is_digit (b ∷ bs)) (b ∷ bs) all))
    (chosen_after p (eqb b 34) (string_at bs) (cond (eqb b 123) (Some (shape.Mark mark.Open, bs))
    (cond (eqb b 125) (Some (shape.Mark mark.Close, bs)) (cond (eqb b 59) (Some (shape.Mark mark.Semicolon, bs)) None)))
    (string_after p (units 64 bs) (units_after p 64 bs others))
    (chosen_after p (eqb b 123) (Some (shape.Mark mark.Open, bs))
    (cond (eqb b 125) (Some (shape.Mark mark.Close, bs)) (cond (eqb b 59) (Some (shape.Mark mark.Semicolon, bs)) None)) others
    (chosen_after p (eqb b 125) (Some (shape.Mark mark.Close, bs)) (cond (eqb b 59) (Some (shape.Mark mark.Semicolon, bs)) None) others
    (chosen_after p (eqb b 59) (Some (shape.Mark mark.Semicolon, bs)) None others tt)))))

rest_after : (p : ℕ → Bool) (read : Read) → AreAfter p read → list_all p (rest_of read) ≡ true
rest_after p None is = refl
rest_after p (Some read) is = is

skipped_of : (p : ℕ → Bool) (comments inside : Bool) (bytes : List ℕ) → list_all p bytes ≡ true →
    list_all p (skipped comments inside bytes) ≡ true
skipped_of p comments inside [] all = refl
skipped_of p comments inside (b ∷ bs) all =
    by_byte (separates comments inside b) (λ (further : Bool). skipped_of p comments further bs (dropped p 1 (b ∷ bs) all))
  where
    by_byte : (o : Option Bool) → ((further : Bool) → list_all p (skipped comments further bs) ≡ true) →
        list_all p (past o (b ∷ bs) (λ (further : Bool). skipped comments further bs)) ≡ true
    by_byte None others = all
    by_byte (Some further) others = others further

-- each byte of the comments before several tokens
abbrev pub AreAllOf : (ℕ → Bool) → List (List Comment) → Type 0
AreAllOf p [] = Unit {0}
AreAllOf p (cs ∷ css) = AreOf p cs × AreAllOf p css

taken : (p : ℕ → Bool) (n : ℕ) (bytes : List ℕ) → list_all p bytes ≡ true → list_all p (take n bytes) ≡ true
taken p zero bytes all = refl
taken p (suc n) [] all = refl
taken p (suc n) (b ∷ bs) all =
    let parts = and_parts (p b) (list_all p bs) all in and_whole (p b) (list_all p (take n bs)) parts.0 (taken p n bs parts.1)

before_token : (p : ℕ → Bool) (alone : Bool) (bytes : List ℕ) → list_all p bytes ≡ true → AreOf p (comments_in alone false (separator bytes))
before_token p alone bytes all =
    comments_of_bytes p alone false (separator bytes) (taken p (length bytes - length (after_blanks true bytes)) bytes all)

-- what holds of each byte holds of the bytes of the comments
pub all_along : (p : ℕ → Bool) (n : ℕ) (alone : Bool) (bytes : List ℕ) → list_all p bytes ≡ true → AreAllOf p (comments_along alone n bytes)
all_along p zero alone bytes all = (before_token p alone bytes all, tt)
all_along p (suc n) alone bytes all = (
  before_token p alone bytes all,
  all_along p n false (after_token bytes)
      (rest_after p (token_at (after_blanks true bytes)) (token_after p (after_blanks true bytes) (skipped_of p true false bytes all))),
)
