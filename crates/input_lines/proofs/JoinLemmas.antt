-- The lines of two ranges that meet where a line starts.
use Rattle.std.proofs.Common.{◌≡◌, ◌≢◌, ◌⊎◌, ℕ, zero, suc, ◌+◌, ◌-◌, ◌<◌, ◌≤◌, true, false, eqb, List, [], ◌∷◌, ◌++◌, length, get_or, slice_range, refl, sym, ap, ◌∙◌, inl, inr, ⊎_elim, arith}
use Rattle.std.proofs.lemmas.Bool.{eq-eqb, cases_eq, cases_Bool, both_ways}
use Rattle.input_lines.specs.Lines.{Range, Span, lines_from, begun_at, lines_of, bytes_of}
use Rattle.input_lines.specs.Cuts.{starts_line, cut_point, cut_of, lines_of_cuts, bytes_of_cuts}
use Rattle.input_lines.proofs.RangeLemmas.{length-slice_range, get_or-slice_range, slice_range-split}
use Rattle.input_lines.proofs.LineLemmas.{span, range, lines_of-none}
use Rattle.input_lines.proofs.CutLemmas.{cut_point-lies, cut_point-ordered, cut_point-last}
use Rattle.input_lines.proofs.SearchLemmas.{starts_line-other}

append-nil : {X : Type 0} (xs : List X) → xs ++ [] ≡ xs
append-nil [] = refl
append-nil (x ∷ xs) = ap (λ ys. x ∷ ys) (append-nil xs)

-- where there is a byte there is a line
pub lines_from-some : (at b : ℕ) (bs : List ℕ) → 0 < length (lines_from at (b ∷ bs))
lines_from-some at b bs =
    ⊎_elim
    (λ (yes_is : eqb b 10 ≡ true). rw yes_is (omega arith))
    (λ (no_is : eqb b 10 ≡ false). rw no_is (begun_at-some (lines_from (at + 1) bs)))
    (cases_Bool (eqb b 10))
  where
    begun_at-some : (ls : List Span) → 0 < length (begun_at at ls)
    begun_at-some [] = omega arith
    begun_at-some (l ∷ ls) = omega arith

begun_at-append : (at : ℕ) (ls ms : List Span) → 0 < length ls → begun_at at (ls ++ ms) ≡ begun_at at ls ++ ms
begun_at-append at [] ms some = absurd (omega arith)
begun_at-append at (l ∷ ls) ms some = refl

-- bytes that end in a newline, and bytes after them
pub lines_from-append : (at : ℕ) (xs ys : List ℕ) → (0 < length xs → get_or xs (length xs - 1) 0 ≡ 10) →
    lines_from at (xs ++ ys) ≡ lines_from at xs ++ lines_from (at + length xs) ys
lines_from-append at [] ys ends = let same : at ≡ at + 0 = omega arith in ap (λ n. lines_from n ys) same
lines_from-append at (b ∷ []) ys ends =
    let test : eqb b 10 ≡ true = eq-eqb b 10 (ends (omega arith)) in
    rw test refl
lines_from-append at (b ∷ c ∷ bs) ys ends =
    let low : length (c ∷ bs) - 1 ≡ length bs = omega arith in
    let high : length (b ∷ c ∷ bs) - 1 ≡ suc (length bs) = omega arith in
    let last : get_or (c ∷ bs) (length (c ∷ bs) - 1) 0 ≡ 10 = ap (λ n. get_or (c ∷ bs) n 0) low
    ∙ sym (ap (λ n. get_or (b ∷ c ∷ bs) n 0) high) ∙ ends (omega arith) in
    let rest = lines_from-append (at + 1) (c ∷ bs) ys (λ some. last) in
    let place : at + 1 + length (c ∷ bs) ≡ at + length (b ∷ c ∷ bs) = omega arith in
    let rest_at : lines_from (at + 1) (c ∷ (bs ++ ys)) ≡ lines_from (at + 1) (c ∷ bs) ++ lines_from (at + length (b ∷ c ∷ bs)) ys =
    rest ∙ ap (λ n. lines_from (at + 1) (c ∷ bs) ++ lines_from n ys) place in
    ⊎_elim
    (λ (yes_is : eqb b 10 ≡ true). rw yes_is (ap (λ ls. span at 0 ∷ ls) rest_at))
    (λ (no_is : eqb b 10 ≡ false). rw no_is (ap (begun_at at) rest_at
    ∙ begun_at-append at (lines_from (at + 1) (c ∷ bs)) _ (lines_from-some (at + 1) c bs)))
    (cases_Bool (eqb b 10))

-- a range cut where a line starts, or at its end, has the lines of both
pub lines_of-split : (buffer : List ℕ) (a b c : ℕ) → a ≤ b → b ≤ c → c ≤ length buffer → (b ≡ c) ⊎ (starts_line buffer b ≡ true) →
    lines_of buffer (range a c) ≡ lines_of buffer (range a b) ++ lines_of buffer (range b c)
lines_of-split buffer a b c ab bc within stops =
    ⊎_elim
    (λ (at_end : b ≡ c).
    sym (ap (λ n. lines_of buffer (range a n) ++ lines_of buffer (range n c)) at_end
    ∙ ap (λ ls. lines_of buffer (range a c) ++ ls) (lines_of-none buffer c) ∙ append-nil (lines_of buffer (range a c))))
    (λ (starts : starts_line buffer b ≡ true).
    let long : length (slice_range buffer a b) ≡ b - a = length-slice_range buffer a b (omega arith) in
    let ends : 0 < length (slice_range buffer a b) → get_or (slice_range buffer a b) (length (slice_range buffer a b) - 1) 0 ≡ 10 = λ some.
    let place : a + (length (slice_range buffer a b) - 1) ≡ b - 1 = omega arith in
    get_or-slice_range buffer a b (length (slice_range buffer a b) - 1) (omega arith) ∙ ap (λ n. get_or buffer n 0) place
    ∙ ⊎_elim (λ is. is) (λ other. absurd (both_ways _ (starts_line-other buffer b (omega arith) other) starts))
    (cases_eq (get_or buffer (b - 1) 0) 10) in
    let place : a + length (slice_range buffer a b) ≡ b = omega arith in
    ap (lines_from a) (slice_range-split buffer a b c ab bc) ∙ lines_from-append a (slice_range buffer a b) (slice_range buffer b c) ends
    ∙ ap (λ n. lines_from a (slice_range buffer a b) ++ lines_from n (slice_range buffer b c)) place)
    stops

-- the lines of the first n cuts are those up to the n-th cut point
lines_of_cuts-front : (buffer : List ℕ) (r : Range) (k n : ℕ) → r.from ≤ r.to → r.to ≤ length buffer → 0 < k → n ≤ k →
    lines_of_cuts buffer r k n ≡ lines_of buffer (range r.from (cut_point buffer r k n))
lines_of_cuts-front buffer r k zero ordered within some le = sym (lines_of-none buffer r.from)
lines_of_cuts-front buffer r k (suc n) ordered within some le =
    let before = lines_of_cuts-front buffer r k n ordered within some (omega arith) in
    let here = cut_point-lies buffer r k n ordered some (omega arith) in
    let next = cut_point-lies buffer r k (n + 1) ordered some (omega arith) in
    let step = cut_point-ordered buffer r k n ordered (omega arith) in
    let low = here.low in
    let high = next.high in
    let same : n + 1 ≡ suc n = omega arith in
    let meets : lines_of buffer (range r.from (cut_point buffer r k (n + 1))) ≡ lines_of buffer (range r.from (cut_point buffer r k n))
    ++ lines_of buffer (range (cut_point buffer r k n) (cut_point buffer r k (n + 1))) =
    ⊎_elim
    (λ (first : n ≡ 0).
    let at : cut_point buffer r k n ≡ r.from = ap (cut_point buffer r k) first in
    sym (ap (λ p. lines_of buffer (range r.from p) ++ lines_of buffer (range p (cut_point buffer r k (n + 1)))) at
    ∙ ap (λ ls. ls ++ lines_of buffer (range r.from (cut_point buffer r k (n + 1)))) (lines_of-none buffer r.from)))
    (λ (later : n ≢ 0).
    lines_of-split buffer r.from (cut_point buffer r k n) (cut_point buffer r k (n + 1)) low step (omega arith)
    (⊎_elim (λ (ends : cut_point buffer r k n ≡ r.to). inl (omega arith)) (λ starts. inr starts) (here.stops (omega arith))))
    (cases_eq n 0) in
    ap (λ ls. ls ++ lines_of buffer (cut_of buffer r k n)) before ∙ sym meets
    ∙ ap (λ m. lines_of buffer (range r.from (cut_point buffer r k m))) same

-- the lines of all k cuts of a range, in order, are the lines of the range
pub lines_of_cuts-all : (buffer : List ℕ) (r : Range) (k : ℕ) → r.from ≤ r.to → r.to ≤ length buffer → 0 < k →
    lines_of_cuts buffer r k k ≡ lines_of buffer r
lines_of_cuts-all buffer r k ordered within some =
    lines_of_cuts-front buffer r k k ordered within some (omega arith)
    ∙ ap (λ n. lines_of buffer (range r.from n)) (cut_point-last buffer r k some)

bytes_of_cuts-front : (buffer : List ℕ) (r : Range) (k n : ℕ) → r.from ≤ r.to → 0 < k → n ≤ k →
    bytes_of_cuts buffer r k n ≡ bytes_of buffer (range r.from (cut_point buffer r k n))
bytes_of_cuts-front buffer r k zero ordered some le =
    let none : r.from - r.from ≡ 0 = omega arith in
    rw none refl
bytes_of_cuts-front buffer r k (suc n) ordered some le =
    let before = bytes_of_cuts-front buffer r k n ordered some (omega arith) in
    let here = cut_point-lies buffer r k n ordered some (omega arith) in
    let step = cut_point-ordered buffer r k n ordered (omega arith) in
    let low = here.low in
    let same : n + 1 ≡ suc n = omega arith in
    ap (λ bs. bs ++ bytes_of buffer (cut_of buffer r k n)) before
    ∙ sym (slice_range-split buffer r.from (cut_point buffer r k n) (cut_point buffer r k (n + 1)) low step)
    ∙ ap (λ m. bytes_of buffer (range r.from (cut_point buffer r k m))) same

-- the bytes of all k cuts of a range, in order, are the bytes of the range
pub bytes_of_cuts-all : (buffer : List ℕ) (r : Range) (k : ℕ) → r.from ≤ r.to → 0 < k → bytes_of_cuts buffer r k k ≡ bytes_of buffer r
bytes_of_cuts-all buffer r k ordered some =
    bytes_of_cuts-front buffer r k k ordered some (omega arith) ∙ ap (λ n. bytes_of buffer (range r.from n))
    (cut_point-last buffer r k some)

-- there are at most as many lines as bytes
pub length-lines_from : (at : ℕ) (xs : List ℕ) → length (lines_from at xs) ≤ length xs
length-lines_from at [] = omega arith
length-lines_from at (b ∷ bs) =
    let rest = length-lines_from (at + 1) bs in
    ⊎_elim
    (λ (yes_is : eqb b 10 ≡ true). rw yes_is (omega arith))
    (λ (no_is : eqb b 10 ≡ false). rw no_is (length-begun_at bs (lines_from (at + 1) bs) (lines_of_nothing bs) rest))
    (cases_Bool (eqb b 10))
  where
    length-begun_at : (bs : List ℕ) (ls : List Span) → (length bs ≡ 0 → length ls ≡ 0) → length ls ≤ length bs →
        length (begun_at at ls) ≤ suc (length bs)
    length-begun_at bs [] none le = omega arith
    length-begun_at bs (l ∷ ls) none le = omega arith

    lines_of_nothing : (bs : List ℕ) → length bs ≡ 0 → length (lines_from (at + 1) bs) ≡ 0
    lines_of_nothing [] is = refl
    lines_of_nothing (b ∷ bs) is = absurd (omega arith)

-- a range of the buffer has at most as many lines as it has places
pub length-lines_of : (buffer : List ℕ) (from to : ℕ) → from ≤ to → to ≤ length buffer →
    length (lines_of buffer (range from to)) + from ≤ to
length-lines_of buffer from to ordered within =
    omega (arith, length-slice_range buffer from to within, length-lines_from from (slice_range buffer from to))
