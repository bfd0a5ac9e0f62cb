-- The lines of a list of bytes, from their front.
use Rattle.std.proofs.Common.{◌≡◌, ◌≢◌, ℕ, zero, suc, ◌+◌, ◌-◌, ◌<◌, ◌≤◌, List, [], ◌∷◌, length, get_or, take, drop, slice_range, Some, None, refl, sym, ap, ◌∙◌, arith, add-one, true, false, eqb}
use Rattle.std.proofs.lemmas.Bool.{ne_eqb, eq-eqb, eqb-true}
use Rattle.memchr.specs.Find.{IsFirstByte, is_byte}
use Rattle.input_lines.specs.Lines.{Range, Span, lines_from, begun_at, lines_of}
use Rattle.input_lines.proofs.RangeLemmas.{length-slice_range, drop-slice_range}

abbrev pub span : ℕ → ℕ → Span
span at len = record { at = at; len = len }

abbrev pub range : ℕ → ℕ → Range
range from to = record { from = from; to = to }

-- the first newline ends the first line
pub lines_from-newline : (at : ℕ) (xs : List ℕ) (k next : ℕ) → next ≡ at + k + 1 → k < length xs → get_or xs k 0 ≡ 10 →
    ((j : ℕ) → j < k → get_or xs j 0 ≢ 10) → lines_from at xs ≡ span at k ∷ lines_from next (drop (suc k) xs)
lines_from-newline at [] k next is below here before = absurd (omega arith)
lines_from-newline at (b ∷ bs) zero next is below here before =
    let test : eqb b 10 ≡ true = eq-eqb b 10 here in
    let place : at + 1 ≡ next = omega arith in
    rw test (ap (λ n. span at 0 ∷ lines_from n bs) place)
lines_from-newline at (b ∷ bs) (suc k) next is below here before =
    let test : eqb b 10 ≡ false = ne_eqb b 10 (before 0 (omega arith)) in
    let rest = lines_from-newline (at + 1) bs k next (omega arith) (omega arith) here (λ j less. before (suc j) (omega arith)) in
    rw test (ap (begun_at at) rest ∙ ap (λ n. span at n ∷ lines_from next (drop (suc k) bs)) (add-one k))

-- bytes without a newline are one line
pub lines_from-last : (at : ℕ) (b : ℕ) (bs : List ℕ) → ((j : ℕ) → j < length (b ∷ bs) → get_or (b ∷ bs) j 0 ≢ 10) →
    lines_from at (b ∷ bs) ≡ span at (length (b ∷ bs)) ∷ []
lines_from-last at b [] none =
    let test : eqb b 10 ≡ false = ne_eqb b 10 (none 0 (omega arith)) in
    rw test refl
lines_from-last at b (x ∷ xs) none =
    let test : eqb b 10 ≡ false = ne_eqb b 10 (none 0 (omega arith)) in
    let rest = lines_from-last (at + 1) x xs (λ j less. none (suc j) (omega arith)) in
    rw test (ap (begun_at at) rest ∙ ap (λ n. span at n ∷ []) (add-one _))

-- what a search for a newline says of the first line of a range
pub lines_of-newline : (buffer : List ℕ) (next end k : ℕ) → end ≤ length buffer →
    IsFirstByte (is_byte 10) (slice_range buffer next end) (Some k) → (next + k + 1 ≤ end)
    × (lines_of buffer (range next end) ≡ span next k ∷ lines_of buffer (range (next + k + 1) end))
lines_of-newline buffer next end k within found =
    let bytes = slice_range buffer next end in
    let high : k < length bytes = found.0.high in
    let long : length bytes ≡ end - next = length-slice_range buffer next end within in
    let here : get_or bytes k 0 ≡ 10 = eqb-true _ _ found.1 in
    let before : (j : ℕ) → j < k → get_or bytes j 0 ≢ 10 = λ j less is. found.0.before j (omega arith) less (eq-eqb _ _ is) in
    let place : next + suc k ≡ next + k + 1 = omega arith in
    let rest : drop (suc k) bytes ≡ slice_range buffer (next + k + 1) end =
    drop-slice_range buffer next end (suc k) (omega arith) ∙ ap (λ n. slice_range buffer n end) place in (
      omega arith,
      lines_from-newline next bytes k (next + k + 1) (omega arith) high here before
          ∙ ap (λ ys. span next k ∷ lines_from (next + k + 1) ys) rest,
    )

one_line : (at : ℕ) (xs : List ℕ) → 0 < length xs → ((j : ℕ) → j < length xs → get_or xs j 0 ≢ 10) →
    lines_from at xs ≡ span at (length xs) ∷ []
one_line at [] some none = absurd (omega arith)
one_line at (b ∷ bs) some none = lines_from-last at b bs none

-- no bytes have no lines
pub lines_of-none : (buffer : List ℕ) (end : ℕ) → lines_of buffer (range end end) ≡ []
lines_of-none buffer end =
    let nothing : end - end ≡ 0 = omega arith in
    ap (λ n. lines_from end (take n (drop end buffer))) nothing

-- where a search finds no newline the range is one line
pub lines_of-last : (buffer : List ℕ) (next end : ℕ) → end ≤ length buffer → next < end →
    IsFirstByte (is_byte 10) (slice_range buffer next end) None →
    lines_of buffer (range next end) ≡ span next (end - next) ∷ lines_of buffer (range end end)
lines_of-last buffer next end within some missed =
    let bytes = slice_range buffer next end in
    let long : length bytes ≡ end - next = length-slice_range buffer next end within in
    let none : (j : ℕ) → j < length bytes → get_or bytes j 0 ≢ 10 = λ j less is. missed j (omega arith) less (eq-eqb _ _ is) in
    one_line next bytes (omega arith) none ∙ ap (λ n. span next n ∷ []) long
    ∙ ap (λ ls. span next (end - next) ∷ ls) (sym (lines_of-none buffer end))
