-- The number of lines: one for each newline, and one for bytes after the last.
use Rattle.std.proofs.Common.{◌≡◌, ◌≢◌, ℕ, suc, ◌+◌, ◌-◌, ◌<◌, ◌≤◌, true, false, eqb, cond, List, [], ◌∷◌, length, get_or, take, drop, slice_range, count_by, refl, sym, ap, ◌∙◌, ⊎_elim, arith}
use Rattle.std.proofs.lemmas.Bool.{ne_eqb, eq-eqb, cases_Bool}
use Rattle.std.proofs.lemmas.List.{length-take, take_rest}
use Rattle.std.proofs.lemmas.List.Sums.{sum_by-cons, sum_by-append, sum_by-take-drop, count_by-le-length}
use Rattle.std.proofs.Math.Seq.{take-add}
use Rattle.input_lines.specs.Lines.{Span, lines_from, begun_at}
use Rattle.input_lines.proofs.JoinLemmas.{lines_from-some}

abbrev pub newlines : List ℕ → ℕ
newlines bytes = count_by (λ b. eqb b 10) bytes

-- 1 where there are bytes after the last newline
abbrev pub open_end : List ℕ → ℕ
open_end [] = 0
open_end (b ∷ []) = cond (eqb b 10) 0 1
open_end (b ∷ c ∷ bs) = open_end (c ∷ bs)

newlines-cons : (b : ℕ) (bs : List ℕ) → newlines (b ∷ bs) ≡ cond (eqb b 10) 1 0 + newlines bs
newlines-cons b bs = sum_by-cons (λ b. cond (eqb b 10) 1 0) b bs

length-begun_at : (at : ℕ) (ls : List Span) → 0 < length ls → length (begun_at at ls) ≡ length ls
length-begun_at at [] some = absurd (omega arith)
length-begun_at at (l ∷ ls) some = refl

-- there are as many lines as newlines, and one more where there are bytes after the last newline
pub lines_from-count : (at : ℕ) (xs : List ℕ) → length (lines_from at xs) ≡ newlines xs + open_end xs
lines_from-count at [] = refl
lines_from-count at (b ∷ []) =
    ⊎_elim
    (λ (yes_is : eqb b 10 ≡ true). rw yes_is refl)
    (λ (no_is : eqb b 10 ≡ false). rw no_is refl)
    (cases_Bool (eqb b 10))
lines_from-count at (b ∷ c ∷ bs) =
    let rest = lines_from-count (at + 1) (c ∷ bs) in
    let some = lines_from-some (at + 1) c bs in
    let first = newlines-cons b (c ∷ bs) in
    ⊎_elim
    (λ (yes_is : eqb b 10 ≡ true).
    let one : newlines (b ∷ c ∷ bs) ≡ 1 + newlines (c ∷ bs) = first ∙ ap (λ t. cond t 1 0 + newlines (c ∷ bs)) yes_is in
    let lines : length (lines_from at (b ∷ c ∷ bs)) ≡ suc (length (lines_from (at + 1) (c ∷ bs))) = rw yes_is refl in
    omega (arith, one, lines, rest))
    (λ (no_is : eqb b 10 ≡ false).
    let none : newlines (b ∷ c ∷ bs) ≡ 0 + newlines (c ∷ bs) = first ∙ ap (λ t. cond t 1 0 + newlines (c ∷ bs)) no_is in
    let lines : length (lines_from at (b ∷ c ∷ bs)) ≡ length (lines_from (at + 1) (c ∷ bs)) =
    rw no_is (length-begun_at at (lines_from (at + 1) (c ∷ bs)) some) in
    omega (arith, none, lines, rest))
    (cases_Bool (eqb b 10))

open_end-newline : (xs : List ℕ) → get_or xs (length xs - 1) 0 ≡ 10 → open_end xs ≡ 0
open_end-newline [] is = refl
open_end-newline (b ∷ []) is = let test : eqb b 10 ≡ true = eq-eqb b 10 is in rw test refl
open_end-newline (b ∷ c ∷ bs) is =
    let place : length (b ∷ c ∷ bs) - 1 ≡ suc (length (c ∷ bs) - 1) = omega arith in
    open_end-newline (c ∷ bs) (sym (ap (λ n. get_or (b ∷ c ∷ bs) n 0) place) ∙ is)

open_end-other : (xs : List ℕ) → 0 < length xs → get_or xs (length xs - 1) 0 ≢ 10 → open_end xs ≡ 1
open_end-other [] some other = absurd (omega arith)
open_end-other (b ∷ []) some other = let test : eqb b 10 ≡ false = ne_eqb b 10 other in rw test refl
open_end-other (b ∷ c ∷ bs) some other =
    let place : length (b ∷ c ∷ bs) - 1 ≡ suc (length (c ∷ bs) - 1) = omega arith in
    open_end-other (c ∷ bs) (omega arith) (λ is. other (ap (λ n. get_or (b ∷ c ∷ bs) n 0) place ∙ is))

-- bytes that end in a newline have as many lines as newlines
pub count-ended : (at : ℕ) (xs : List ℕ) → get_or xs (length xs - 1) 0 ≡ 10 → newlines xs ≡ length (lines_from at xs)
count-ended at xs is = omega (arith, lines_from-count at xs, open_end-newline xs is)

-- bytes that do not end in a newline have one line more
pub count-open : (at : ℕ) (xs : List ℕ) → 0 < length xs → get_or xs (length xs - 1) 0 ≢ 10 → newlines xs + 1 ≡ length (lines_from at xs)
count-open at xs some other = omega (arith, lines_from-count at xs, open_end-other xs some other)

-- the newlines before a place, and those of a range from there on
pub newlines-more : (bytes : List ℕ) (at len : ℕ) → newlines (take at bytes) + newlines (slice_range bytes at (at + len))
    ≡ newlines (take (at + len) bytes)
newlines-more bytes at len =
    let size : at + len - at ≡ len = omega arith in
    ap (λ n. newlines (take at bytes) + newlines (take n (drop at bytes))) size
    ∙ sym (sum_by-append (λ b. cond (eqb b 10) 1 0) (take at bytes) (take len (drop at bytes)))
    ∙ ap newlines (sym (take-add at len bytes))

-- the newlines before a place, and those from there on
pub newlines-rest : (bytes : List ℕ) (at : ℕ) → newlines (take at bytes) + newlines (take (length bytes - at) (drop at bytes))
    ≡ newlines bytes
newlines-rest bytes at =
    ap (λ ys. newlines (take at bytes) + newlines ys) (take_rest bytes at) ∙ sum_by-take-drop (λ b. cond (eqb b 10) 1 0) bytes at

-- there are at most as many newlines before a place as places
pub newlines-few : (bytes : List ℕ) (at : ℕ) → newlines (take at bytes) ≤ at
newlines-few bytes at = omega (arith, count_by-le-length (λ b. eqb b 10) (take at bytes), length-take at bytes)
