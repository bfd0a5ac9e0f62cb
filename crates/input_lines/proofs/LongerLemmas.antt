-- The lines that are not preceded by a line of more than the given number of bytes.
use Rattle.std.proofs.Common.{◌≡◌, ℕ, zero, suc, ◌+◌, ◌-◌, ◌<◌, ◌≤◌, true, false, eqb, List, [], ◌∷◌, ◌++◌, length, get_or, slice_range, Option, Some, None, refl, sym, ap, subst, ◌∙◌, inr, ⊎_elim, arith}
use Rattle.std.proofs.lemmas.Bool.{lt-ltb, le-ltb, eq-eqb, eqb-true, cases_Bool, cases_lt}
use Rattle.memchr.specs.Find.{IsLastByte, is_byte}
use Rattle.input_lines.specs.Lines.{Span, lines_from, begun_at, lines_of, from_longer}
use Rattle.input_lines.specs.Part.{GivesLine, GivesLonger, IsLineOf, span_of, lines_left, range_left, source_of}
use Rattle.input_lines.specs.declared.line.Line.{Line}
use Rattle.input_lines.specs.declared.line.Lines.{Lines}
use Rattle.input_lines.proofs.RangeLemmas.{length-slice_range, get_or-slice_range}
use Rattle.input_lines.proofs.LineLemmas.{range}
use Rattle.input_lines.proofs.SearchLemmas.{starts_line-newline}
use Rattle.input_lines.proofs.JoinLemmas.{lines_of-split, lines_from-some}
use Rattle.input_lines.proofs.SkipLemmas.{IsFirstLine, BeginsWithFirst, lines_from-first}

-- no line has more than the given number of bytes
abbrev pub NoLonger : ℕ → List Span → Type 0
NoLonger n [] = Unit {0}
NoLonger n (l ∷ ls) = (l.len ≤ n) × NoLonger n ls

NoLonger-more : (n m : ℕ) (ls : List Span) → n ≤ m → NoLonger n ls → NoLonger m ls
NoLonger-more n m [] le short = tt
NoLonger-more n m (l ∷ ls) le (first, rest) = (omega arith, NoLonger-more n m ls le rest)

-- lines that are not longer are skipped
pub from_longer-short : (n : ℕ) (ls ms : List Span) → NoLonger n ls → from_longer n (ls ++ ms) ≡ from_longer n ms
from_longer-short n [] ms short = refl
from_longer-short n (l ∷ ls) ms (first, rest) = rw (le-ltb n l.len first) (from_longer-short n ls ms rest)

-- where no line is longer none is left
pub from_longer-none : (n : ℕ) (ls : List Span) → NoLonger n ls → from_longer n ls ≡ []
from_longer-none n [] short = refl
from_longer-none n (l ∷ ls) (first, rest) = rw (le-ltb n l.len first) (from_longer-none n ls rest)

-- a longer line is the first of those that are left
pub from_longer-first : (n : ℕ) (l : Span) (ls : List Span) → n < l.len → from_longer n (l ∷ ls) ≡ l ∷ ls
from_longer-first n l ls longer = rw (lt-ltb n l.len longer) refl

begun-all : (n at : ℕ) (ls : List Span) → NoLonger n ls → NoLonger (suc n) (begun_at at ls)
begun-all n at [] short = (omega arith, tt)
begun-all n at (l ∷ ls) (first, rest) = (omega arith, NoLonger-more n (suc n) ls (omega arith) rest)

-- no line has more bytes than all of them
lines_from-all : (at : ℕ) (xs : List ℕ) → NoLonger (length xs) (lines_from at xs)
lines_from-all at [] = tt
lines_from-all at (b ∷ bs) =
    let rest = lines_from-all (at + 1) bs in
    ⊎_elim
    (λ (yes_is : eqb b 10 ≡ true). rw yes_is (
      omega arith,
      NoLonger-more (length bs) (suc (length bs)) (lines_from (at + 1) bs)
          (omega arith) rest,
    ))
    (λ (no_is : eqb b 10 ≡ false). rw no_is (begun-all (length bs) at (lines_from (at + 1) bs) rest))
    (cases_Bool (eqb b 10))

begun-ended : (n at : ℕ) (ls : List Span) → 0 < length ls → NoLonger n ls → NoLonger (suc n) (begun_at at ls)
begun-ended n at [] some short = absurd (omega arith)
begun-ended n at (l ∷ ls) some (first, rest) = (omega arith, NoLonger-more n (suc n) ls (omega arith) rest)

-- a newline after the last line counts for none of them
lines_from-ended : (at n : ℕ) (xs : List ℕ) → length xs ≡ suc n → get_or xs n 0 ≡ 10 → NoLonger n (lines_from at xs)
lines_from-ended at n [] long ends = absurd (omega arith)
lines_from-ended at zero (b ∷ []) long ends = rw (eq-eqb b 10 ends) (omega arith, tt)
lines_from-ended at (suc n) (b ∷ []) long ends = absurd (omega arith)
lines_from-ended at zero (b ∷ c ∷ bs) long ends = absurd (omega arith)
lines_from-ended at (suc n) (b ∷ c ∷ bs) long ends =
    let rest = lines_from-ended (at + 1) n (c ∷ bs) (omega arith) ends in
    let lines = lines_from (at + 1) (c ∷ bs) in
    ⊎_elim
    (λ (yes_is : eqb b 10 ≡ true). rw yes_is (omega arith, NoLonger-more n (suc n) lines (omega arith) rest))
    (λ (no_is : eqb b 10 ≡ false). rw no_is (begun-ended n at lines (lines_from-some (at + 1) c bs) rest))
    (cases_Bool (eqb b 10))

-- the last newline among the next bytes, one more than the length, ends lines that are not longer
pub passed-newline : (buffer : List ℕ) (next end n k : ℕ) → n < end - next → end ≤ length buffer →
    IsLastByte (is_byte 10) (slice_range buffer next (next + n + 1)) (Some k)
    → (next + (k + 1) ≤ end) × (from_longer n (lines_of buffer (range next end))
    ≡ from_longer n (lines_of buffer (range (next + (k + 1)) end)))
passed-newline buffer next end n k more within found =
    let bytes = slice_range buffer next (next + n + 1) in
    let start = next + (k + 1) in
    let high : k < length bytes = found.0.high in
    let long : length bytes ≡ next + n + 1 - next = length-slice_range buffer next (next + n + 1) (omega arith) in
    let here : get_or bytes k 0 ≡ 10 = eqb-true _ _ found.1 in
    let newline : get_or buffer (next + k) 0 ≡ 10 = sym (get_or-slice_range buffer next (next + n + 1) k (omega arith)) ∙ here in
    let back : next + k ≡ start - 1 = omega arith in
    let split = lines_of-split buffer next start end (omega arith) (omega arith) within
    (inr (starts_line-newline buffer start (sym (ap (λ p. get_or buffer p 0) back) ∙ newline))) in
    let size : length (slice_range buffer next start) ≡ start - next = length-slice_range buffer next start (omega arith) in
    let last : get_or (slice_range buffer next start) k 0 ≡ 10 = get_or-slice_range buffer next start k (omega arith) ∙ newline in
    let short = NoLonger-more k n (lines_of buffer (range next start)) (omega arith)
    (lines_from-ended next k (slice_range buffer next start) (omega arith) last) in (
      omega arith,
      ap (from_longer n) split ∙ from_longer-short n (lines_of buffer (range next start)) (lines_of buffer (range start end))
          short,
    )

-- bytes that are not more than the length hold no longer line
pub passed-rest : (buffer : List ℕ) (next end n : ℕ) → end - next ≤ n → end ≤ length buffer →
    from_longer n (lines_of buffer (range next end)) ≡ []
passed-rest buffer next end n few within =
    let long : length (slice_range buffer next end) ≡ end - next = length-slice_range buffer next end within in
    from_longer-none n (lines_of buffer (range next end)) (NoLonger-more (length (slice_range buffer next end)) n
    (lines_of buffer (range next end)) (omega arith) (lines_from-all next (slice_range buffer next end)))

-- where there is no newline among them the next line is longer
pub longer-line : (s t : Lines) (n : ℕ) (line : Line) → n < s.end - s.next →
    IsLastByte (is_byte 10) (slice_range (source_of s) s.next (s.next + n + 1)) None → GivesLine s (Some line) t →
    from_longer n (lines_left s) ≡ span_of line ∷ lines_left t
longer-line s t n line more missed gives =
    let b = source_of s in
    let l = span_of line in
    let bytes = slice_range b s.next s.end in
    let few = slice_range b s.next (s.next + n + 1) in
    let long : length bytes ≡ s.end - s.next = length-slice_range b s.next s.end s.within in
    let size : length few ≡ s.next + n + 1 - s.next = length-slice_range b s.next (s.next + n + 1) (omega (arith, s.within)) in
    let first : IsFirstLine s.next bytes l = subst (BeginsWithFirst s.next bytes) gives.first (lines_from-first s.next bytes) in
    let longer : n < l.len =
    ⊎_elim (λ (all : l.len ≡ length bytes). omega arith)
    (λ (here : get_or bytes l.len 0 ≡ 10).
    ⊎_elim
    (λ (less : l.len < n + 1).
    let same : get_or few l.len 0 ≡ get_or bytes l.len 0 = get_or-slice_range b s.next (s.next + n + 1) l.len (omega arith)
    ∙ sym (get_or-slice_range b s.next s.end l.len (omega arith)) in
    absurd (missed l.len (omega arith) (omega arith) (eq-eqb _ _ (same ∙ here))))
    (λ le. omega arith)
    (cases_lt l.len (n + 1)))
    first.ends in
    ap (from_longer n) gives.first ∙ from_longer-first n l (lines_left t) longer

-- so what the call returns then is the first longer line of those that were left before
pub longer-given : (old s t : Lines) (n : ℕ) (given : Option Line) → source_of s ≡ source_of old → (range_left s).to ≡ (range_left old).to →
    from_longer n (lines_left old) ≡ from_longer n (lines_left s) → n < s.end - s.next
    → IsLastByte (is_byte 10) (slice_range (source_of s) s.next (s.next + n + 1)) None → GivesLine s given t → GivesLonger old n given t
longer-given old s t n None source ends passed more missed gives = record {
  first = (passed ∙ ap (from_longer n) gives.first.0, gives.first.1);
  placed = tt;
  same_source = gives.same_source ∙ source;
  same_end = gives.same_end ∙ ends;
}
longer-given old s t n (Some line) source ends passed more missed gives = record {
  first = passed ∙ longer-line s t n line more missed gives;
  placed = subst (λ b. IsLineOf b line) source gives.placed;
  same_source = gives.same_source ∙ source;
  same_end = gives.same_end ∙ ends;
}
