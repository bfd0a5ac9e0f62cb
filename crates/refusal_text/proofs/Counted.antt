-- The line and the column of a place, counted on from those of a place that is not after it.
use Rattle.std.proofs.Common.{◌≡◌, ℕ, suc, ◌+◌, ◌-◌, ◌≤◌, ◌==◌, if◌then◌else◌, Bool, true, false, List, [], ◌∷◌, ◌++◌, length, take, drop, min, refl, ap, sym, ◌∙◌, take-add, length-take, arith}
use Rattle.basics.specs.Places.{line_from, column_from, line_of, column_of}
use Rattle.refusal_text.specs.Explaining.{most_before}
use Rattle.refusal_text.proofs.Messages.{cut_front, cut_back}

line_after : (n : ℕ) (xs ys : List ℕ) → line_from n (xs ++ ys) ≡ line_from (line_from n xs) ys
line_after n [] ys = refl
line_after n (x ∷ xs) ys = line_after (if x == 10 then n + 1 else n) xs ys

column_after : (n : ℕ) (xs ys : List ℕ) → column_from n (xs ++ ys) ≡ column_from (column_from n xs) ys
column_after n [] ys = refl
column_after n (x ∷ xs) ys = column_after (if x == 10 then 1 else n + 1) xs ys

-- the bytes before a place are those before an earlier one, and those between the two
joined : (text : List ℕ) (from at : ℕ) → from ≤ at → take at text ≡ take from text ++ take (at - from) (drop from text)
joined text from at le =
    let whole : at ≡ from + (at - from) = omega arith in ap (λ (n : ℕ). take n text) whole ∙ take-add from (at - from) text

-- the bytes between the two, as `split_at` cuts them
between : (text rest passed : List ℕ) (from at end last : ℕ) → rest ≡ drop end text → end ≡ min from (length text)
    → passed ≡ take last rest → last ≡ min (at - from) (length rest) → passed ≡ take (at - from) (drop from text)
between text rest passed from at end last rest_is end_is passed_is last_is =
    cut_front rest passed (at - from) last passed_is last_is ∙ ap (take (at - from)) (cut_back text rest from end rest_is end_is)

pub line_on : (text rest passed : List ℕ) (from at end last line counted : ℕ) → from ≤ at → rest ≡ drop end text →
    end ≡ min from (length text)
    → passed ≡ take last rest → last ≡ min (at - from) (length rest) → line ≡ line_of text from → counted ≡ line_from line passed
    → counted ≡ line_of text at
line_on text rest passed from at end last line counted le rest_is end_is passed_is last_is line_is is =
    is ∙ ap (λ (n : ℕ). line_from n passed) line_is
    ∙ ap (line_from (line_of text from)) (between text rest passed from at end last rest_is end_is passed_is last_is)
    ∙ sym (line_after 1 (take from text) (take (at - from) (drop from text))) ∙ ap (line_from 1) (sym (joined text from at le))

pub column_on : (text rest passed : List ℕ) (from at end last column counted : ℕ) → from ≤ at → rest ≡ drop end text →
    end ≡ min from (length text)
    → passed ≡ take last rest → last ≡ min (at - from) (length rest) → column ≡ column_of text from
    → counted ≡ column_from column passed
    → counted ≡ column_of text at
column_on text rest passed from at end last column counted le rest_is end_is passed_is last_is column_is is =
    is ∙ ap (λ (n : ℕ). column_from n passed) column_is
    ∙ ap (column_from (column_of text from)) (between text rest passed from at end last rest_is end_is passed_is last_is)
    ∙ sym (column_after 1 (take from text) (take (at - from) (drop from text))) ∙ ap (column_from 1) (sym (joined text from at le))

line_step : (newline : Bool) (n : ℕ) (xs : List ℕ) → line_from (n + 1) xs ≤ n + 1 + length xs → line_from n xs ≤ n + length xs →
    line_from (if newline then n + 1 else n) xs ≤ n + suc (length xs)
line_step true n xs after same = omega arith
line_step false n xs after same = omega arith

line_bound : (n : ℕ) (xs : List ℕ) → line_from n xs ≤ n + length xs
line_bound n [] = omega arith
line_bound n (x ∷ xs) = line_step (x == 10) n xs (line_bound (n + 1) xs) (line_bound n xs)

column_step : (newline : Bool) (n : ℕ) (xs : List ℕ) → column_from 1 xs ≤ 1 + length xs → column_from (n + 1) xs ≤ n + 1 + length xs →
    column_from (if newline then 1 else n + 1) xs ≤ n + suc (length xs)
column_step true n xs first next = omega arith
column_step false n xs first next = omega arith

column_bound : (n : ℕ) (xs : List ℕ) → column_from n xs ≤ n + length xs
column_bound n [] = omega arith
column_bound n (x ∷ xs) = column_step (x == 10) n xs (column_bound 1 xs) (column_bound (n + 1) xs)

column_floor_step : (newline : Bool) (n : ℕ) (xs : List ℕ) → 1 ≤ column_from 1 xs → 1 ≤ column_from (n + 1) xs →
    1 ≤ column_from (if newline then 1 else n + 1) xs
column_floor_step true n xs first next = first
column_floor_step false n xs first next = next

column_floor : (n : ℕ) (xs : List ℕ) → 1 ≤ n → 1 ≤ column_from n xs
column_floor n [] le = le
column_floor n (x ∷ xs) le = column_floor_step (x == 10) n xs (column_floor 1 xs (omega arith)) (column_floor (n + 1) xs (omega arith))

-- no line is beyond the number of the bytes of the text
pub line_most : (text : List ℕ) (at line : ℕ) → line ≡ line_of text at → line ≤ length text + 1
line_most text at line is =
    let most = line_bound 1 (take at text) in
    let fewer : length (take at text) ≡ min at (length text) = length-take at text in omega arith

pub column_most : (text : List ℕ) (at column : ℕ) → column ≡ column_of text at → column ≤ length text + 1
column_most text at column is =
    let most = column_bound 1 (take at text) in
    let fewer : length (take at text) ≡ min at (length text) = length-take at text in omega arith

-- columns are counted from 1
pub column_least : (text : List ℕ) (at column : ℕ) → column ≡ column_of text at → 1 ≤ column
column_least text at column is = let least = column_floor 1 (take at text) (omega arith) in omega arith

-- what is shown before a place is before it
pub shown_inside : (text front : List ℕ) (at column shown : ℕ) → front ≡ take at text → column ≡ column_of text at →
    shown ≡ min (column - 1) most_before → shown ≤ length front
shown_inside text front at column shown front_is column_is is =
    let most = column_bound 1 (take at text) in
    let same : length front ≡ length (take at text) = ap (λ (xs : List ℕ). length xs) front_is in omega arith
